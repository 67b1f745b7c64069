-- Sample grammars that the definitions reject.
use Rattle.ag_grammar.proofs.Common
use Common.{ℕ, zero, suc, sym, ◌≡◌, inl, inr, ◌≤◌, List, [], ◌∷◌, Option, Some, slice_get, refl, ap, subst, ◌∙◌, arith, Each}
use Common.{Item, Production, Literal, Inherited, symbol_kinds, stored_items, IsProduction, Tree, Forest, node, none, more, Fits}
use Common.{FitsAll, IsTreeOf, Passes, Direction, LeftToRight, RightToLeft, MayUse, IsBefore, direction_of, IsLegal}
use Common.item
use Rattle.ag_grammar.proofs.grammars.OneSolution.{counterpart}
use Rattle.ag_grammar.specs.grammars.Accepted.{IsNormal, IsProductive, IsReached, at_start, within}
use Rattle.ag_grammar.specs.grammars.Sample.{both_ways, production_back, copy_rule, s_name, symbol_a, sample, production_r}
use Rattle.ag_grammar.specs.grammars.Sample.{production_a, production_t, attribute, rule_out, rule_first, rule_second, rule_s}
use Rattle.ag_grammar.specs.grammars.Sample.{rule_inherited, later_passes, endless, with_unreached}
use Rattle.ag_grammar.proofs.grammars.Members.{both, only}
use Rattle.ag_grammar.proofs.grammars.Children.{child, tree_ind}
use Rattle.ag_grammar.proofs.grammars.Productive.{by_trees}

pub not_normal : IsNormal sample (production_r (rule_out ∷ rule_first ∷ rule_inherited ∷ [])) → ⊥
not_normal h = let e = h 2 rule_inherited refl 0 (attribute 1 1) refl in cc

pub child_missing : IsTreeOf sample (node 0 (more (node 1 none) none)) → ⊥
child_missing f =
    let e : f.0 ≡ production_r (rule_out ∷ rule_first ∷ rule_second ∷ []) = let h = f.1 in cc in
    let g : FitsAll sample (item.Symbol 1 ∷ item.Symbol 1 ∷ []) (more (node 1 none) none) =
    subst (λ q. FitsAll sample (stored_items q.items) (more (node 1 none) none)) e f.3 in g.1

pub not_legal : IsLegal sample later_passes → ⊥
not_legal l =
    let u =
    l.allowed 0 (production_r (rule_out ∷ rule_first ∷ rule_second ∷ [])) refl rule_first (attribute 2 0) 2 (1, refl)
    (0, refl) refl in
    let second : 2 ≡ u.0 = let e : ◌≡◌ {A = Option ℕ} (Some 2) (Some u.0) = u.1 in cc in
    elim u.2
    [ inl x ↦ (let e = x.0 in omega arith) | inr y ↦ elim y [ inl x ↦ (let e = x.0 in omega arith) | inr x ↦ omega arith ] ]

endless_items : (p : ℕ) (q : Production) → IsProduction endless p q → q.items ≡ item.Symbol 0 ∷ []
endless_items zero q e = cc
endless_items (suc p) q e = cc

no_tree : (t : Tree) → Fits endless (item.Symbol 0) t → ⊥
no_tree t =
    tree_ind (λ t. Fits endless (item.Symbol 0) t → ⊥) (λ c x f. f)
    (λ p ts ih f. go ts ih (subst (λ xs. FitsAll endless (stored_items xs) ts) (endless_items p f.0 f.1) f.3)) t
  where
    go : (ts : Forest) → ((i : ℕ) (t : Tree) → child ts i ≡ Some t → Fits endless (item.Symbol 0) t → ⊥)
        → FitsAll endless (item.Symbol 0 ∷ []) ts → ⊥
    go none ih f = f
    go (more t ts) ih f = ih 0 t refl f.0

pub not_productive : IsProductive endless 0 → ⊥
not_productive h = let t = (by_trees endless 0).0 h in no_tree t.0 t.1

-- an item that is not the symbol 2, and a list of such
abbrev other : Item → Type 0
other x = x ≡ item.Symbol 2 → ⊥

abbrev Lacks : List Item → Type 0
Lacks = Each other

on_no_right_side : (p : ℕ) (q : Production) → IsProduction with_unreached p q → Lacks q.items
on_no_right_side zero q e = let z : production_r (rule_out ∷ rule_first ∷ rule_second ∷ []) ≡ q = cc in
    subst (λ (q : Production). Lacks q.items) z (both other (item.Symbol 1) (item.Symbol 1) (λ e. cc) (λ e. cc))
on_no_right_side (suc zero) q e = let z : production_a ≡ q = cc in
    subst (λ (q : Production). Lacks q.items) z (only other (item.Terminal (Literal 0)) (λ e. cc))
on_no_right_side (suc (suc zero)) q e = let z : production_t ≡ q = cc in
    subst (λ (q : Production). Lacks q.items) z (only other (item.Symbol 0) (λ e. cc))
on_no_right_side (suc (suc (suc p))) q e = cc

unreached : (s : ℕ) → IsReached with_unreached s → s ≡ 2 → ⊥
unreached s at_start e = omega arith
unreached s (within p q i r h) e = on_no_right_side p q i h.0 (item.Symbol s) h.1 (ap item.Symbol e)

pub not_reached : IsReached with_unreached 2 → ⊥
not_reached h = unreached 2 h refl

-- if a rule at one child uses an attribute of the other child that no earlier pass computed, the other child
-- is visited first
from_child : (k j i p : ℕ) → MayUse k (suc j) (suc i) p → k ≤ p → IsBefore (direction_of k) (suc i) (suc j)
from_child k j i p (inl x) late = absurd (omega (arith, x.0))
from_child k j i p (inr (inl x)) late = x.0
from_child k j i p (inr (inr x)) late = absurd (omega arith)

-- the pass of an A's `s` is not before that of its `i`, on which it depends
late_s : (m : Passes) (i s : ℕ) → IsLegal both_ways m → slice_get (m 1) 1 ≡ Some i → slice_get (m 1) 0 ≡ Some s → i ≤ s
late_s m i s legal of_i of_s =
    let one = legal.allowed 1 production_a refl rule_s (attribute 0 1) s (0, refl) (0, refl) of_s in
    let same : one.0 ≡ i = let e : Some one.0 ≡ Some i = sym one.1 ∙ of_i in cc in
    let le = one.2 in
    omega arith

-- no direction visits each of two children before the other
not_both : (d : Direction) → IsBefore d 2 1 → IsBefore d 1 2 → ⊥
not_both LeftToRight h k = omega arith
not_both RightToLeft h k = omega arith

pub none_legal : (m : Passes) → IsLegal both_ways m → ⊥
none_legal m legal =
    let i = counterpart (symbol_kinds (Some symbol_a)) (m 1) 1 Inherited (sym (legal.whole 1)) refl in
    let first =
    legal.allowed 0 (production_r (rule_out ∷ rule_first ∷ rule_second ∷ [])) refl rule_first (attribute 2 0) i.0 (1, refl)
    (0, refl) i.1 in
    let back =
    legal.allowed 2 production_back refl (copy_rule (attribute 2 1) 1 s_name 0) (attribute 1 0) i.0 (2, refl) (0, refl) i.1 in
    not_both (direction_of i.0) (from_child i.0 0 1 first.0 first.2 (late_s m i.0 first.0 legal i.1 first.1))
    (from_child i.0 1 0 back.0 back.2 (late_s m i.0 back.0 legal i.1 back.1))
