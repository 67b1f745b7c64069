-- The occurrences in a tree: their numbers are those of the listed ones. With an example.
use Rattle.ag_grammar.proofs.Common
use Common.{ℕ, suc, ◌≡◌, ◌<◌, Bool, true, false, ◌||◌, ◌&&◌, nat_eq, List, [], ◌∷◌, map, inl, inr, ap, ◌∙◌, sym, subst, pos}
use Common.{arith, and_parts, eqb-true, ltb-true, or_cases, Value, Num, Operator, Add, Node, roll-Node, fold-roll-Node, ind-Node}
use Common.{map-Node, Node-F, all_hold, below_step, each_holds, is_within}
use Common.node_of
use Rattle.ag_grammar.specs.expressions.Laws.{OccurrencesAreListed}
use Rattle.ag_grammar.specs.expressions.Occurring.{has_occurrence, has_step, some_item, some_operand}
use Rattle.ag_grammar.specs.grammars.Sample.{rule_s}
use Rattle.ag_grammar.proofs.expressions.Within.{layer}

-- one level of a tree at a time
pub has_layer : (k : ℕ) (x : Node-F Node) → has_occurrence k (roll-Node x) ≡ has_step k (map-Node Node Bool (has_occurrence k) x)
has_layer k x = fold-roll-Node Bool (has_step k) x

-- whether the operand in one step of a chain contains occurrence k
abbrev pub has_in : ℕ → Operator × Node → Operator × Bool
has_in k p = (p.0, has_occurrence k p.1)

abbrev within_in : ℕ → Operator × Node → Operator × (ℕ → Bool)
within_in n p = (p.0, is_within n p.1)

-- The number of an occurrence in a tree is below n, if the tree is within n.
module _ (n k : ℕ) where
  abbrev IsListed : Node → Type 0
  IsListed e = (bound : ℕ) → is_within n e bound ≡ true → has_occurrence k e ≡ true → k < n

  -- a subtree with this property
  abbrev Listed : Type 0
  Listed = (e : Node) × IsListed e

  abbrev part : Listed → Node
  part e = e.0

  abbrev plain : Operator × Listed → Operator × Node
  plain p = (p.0, part p.1)

  listed_operands : (bound : ℕ) (xs : List (Operator × Listed)) → all_hold bound (map (within_in n) (map plain xs)) ≡ true
      → some_operand (map (has_in k) (map plain xs)) ≡ true → k < n
  listed_operands bound [] below has = let bad : ⊥ = cc in absurd bad
  listed_operands bound (x ∷ xs) below has =
      let parts = and_parts (is_within n x.1.0 bound) (all_hold bound (map (within_in n) (map plain xs))) below in
      elim (or_cases (has_occurrence k x.1.0) (some_operand (map (has_in k) (map plain xs))) has) [
        | inl h ↦ x.1.1 bound parts.0 h
        | inr h ↦ listed_operands bound xs parts.1 h
      ]

  listed_items : (bound : ℕ) (xs : List Listed) → each_holds bound (map (is_within n) (map part xs)) ≡ true
      → some_item (map (has_occurrence k) (map part xs)) ≡ true → k < n
  listed_items bound [] below has = let bad : ⊥ = cc in absurd bad
  listed_items bound (x ∷ xs) below has =
      let parts = and_parts (is_within n x.0 bound) (each_holds bound (map (is_within n) (map part xs))) below in
      elim (or_cases (has_occurrence k x.0) (some_item (map (has_occurrence k) (map part xs))) has) [
        | inl h ↦ x.1 bound parts.0 h
        | inr h ↦ listed_items bound xs parts.1 h
      ]

  -- for two subtrees
  either : (a b : Listed) (at within : ℕ) → (is_within n a.0 at && is_within n b.0 within) ≡ true
      → (has_occurrence k a.0 || has_occurrence k b.0) ≡ true → k < n
  either a b at within below has =
      let parts = and_parts (is_within n a.0 at) (is_within n b.0 within) below in
      elim (or_cases (has_occurrence k a.0) (has_occurrence k b.0) has)
      [ inl h ↦ a.1 at parts.0 h | inr h ↦ b.1 within parts.1 h ]

  -- for three subtrees
  any_of : (a b c : Listed) (bound : ℕ) → (is_within n a.0 bound && (is_within n b.0 bound && is_within n c.0 bound)) ≡ true
      → (has_occurrence k a.0 || (has_occurrence k b.0 || has_occurrence k c.0)) ≡ true → k < n
  any_of a b c bound below has =
      let parts = and_parts (is_within n a.0 bound) (is_within n b.0 bound && is_within n c.0 bound) below in
      elim (or_cases (has_occurrence k a.0) (has_occurrence k b.0 || has_occurrence k c.0) has)
      [ inl h ↦ a.1 bound parts.0 h | inr h ↦ either b c bound bound parts.1 h ]

  listed_layer : (y : Node-F Listed) (bound : ℕ)
      → below_step n (map-Node Node (ℕ → Bool) (is_within n) (map-Node Listed Node part y)) bound ≡ true
      → has_step k (map-Node Node Bool (has_occurrence k) (map-Node Listed Node part y)) ≡ true → k < n
  listed_layer (Node-F.Literal v) bound below has = let bad : ⊥ = cc in absurd bad
  listed_layer (Node-F.Occurrence j) bound below has = let less = ltb-true j n below in let same = eqb-true j k has in omega arith
  listed_layer (Node-F.Bound j) bound below has = let bad : ⊥ = cc in absurd bad
  listed_layer (Node-F.Chain first others) bound below has =
      let parts = and_parts (is_within n first.0 bound) (all_hold bound (map (within_in n) (map plain others))) below in
      elim (or_cases (has_occurrence k first.0) (some_operand (map (has_in k) (map plain others))) has) [
        | inl h ↦ first.1 bound parts.0 h
        | inr h ↦ listed_operands bound others parts.1 h
      ]
  listed_layer (Node-F.Let e f) bound below has = either e f bound (suc bound) below has
  listed_layer (Node-F.If c e f) bound below has = any_of c e f bound below has
  listed_layer (Node-F.Unary call a) bound below has = a.1 bound below has
  listed_layer (Node-F.Binary call a b) bound below has = either a b bound bound below has
  listed_layer (Node-F.Put t i v) bound below has = any_of t i v bound below has
  listed_layer (Node-F.List items) bound below has = listed_items bound items below has
  listed_layer Node-F.EmptyTable bound below has = let bad : ⊥ = cc in absurd bad

  listed_roll : (y : Node-F Listed) → IsListed (roll-Node (map-Node Listed Node part y))
  listed_roll y bound below has =
      let x : Node-F Node = map-Node Listed Node part y in
      listed_layer y bound
      (sym (layer n x bound) ∙ below)
      (sym (has_layer k x) ∙ has)

  is_listed : (e : Node) → IsListed e
  is_listed = ind-Node IsListed (λ x y is. subst (λ z. IsListed (roll-Node z)) is (listed_roll y))

pub occurrences_are_listed : OccurrencesAreListed
occurrences_are_listed n k bound e below has = is_listed n k e bound below has

has_own : (k j : ℕ) → has_occurrence k (node_of.Occurrence j) ≡ nat_eq j k
has_own k j = ap (has_occurrence k) (sym (node_of.rolls-Occurrence j)) ∙ has_layer k (Node-F.Occurrence j)

has_none : (k : ℕ) (v : Value) → has_occurrence k (node_of.Literal v) ≡ false
has_none k v = ap (has_occurrence k) (sym (node_of.rolls-Literal v)) ∙ has_layer k (Node-F.Literal v)

-- the occurrences in `$0.i + 1`
pub has_sum : (k : ℕ) → has_occurrence k rule_s.expr.tree ≡ (nat_eq 0 k || (false || false))
has_sum k =
    ap (has_occurrence k) (sym (node_of.rolls-Chain (node_of.Occurrence 0) ((Add, node_of.Literal (Num (pos 1))) ∷ [])))
    ∙ has_layer k (Node-F.Chain (node_of.Occurrence 0) ((Add, node_of.Literal (Num (pos 1))) ∷ []))
    ∙ ap (λ b. b || (has_occurrence k (node_of.Literal (Num (pos 1))) || false)) (has_own k 0)
    ∙ ap (λ b. nat_eq 0 k || (b || false)) (has_none k (Num (pos 1)))

pub occurs : has_occurrence 0 rule_s.expr.tree ≡ true
occurs = has_sum 0

pub alone : has_occurrence 1 rule_s.expr.tree ≡ false
alone = has_sum 1
