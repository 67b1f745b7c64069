-- A list begins with the records of at most one tree, and a content is the file of at most one.
use Rattle.treefile.proofs.Common
use Common.{◌≡◌, ℕ, zero, suc, ◌≤◌, List, [], ◌∷◌, ◌++◌, length, reverse, refl, append_assoc, arith, reverse-append}
use Common.{reverse-reverse, slice_get_within, Value, Text, Direction, LeftToRight, RightToLeft, Item, Class, Grammar}
use Common.{stored_items, Passes, direction_of, other, AtEachNodeOf, IsWellOn, NoRule, Same, SameAt, Solves, SolvesAll, Valuation}
use Common.{WellAt, children, rest, Tree, Forest, Fits, FitsAll, leaf, node, none, more, IsNumbered, postfix, prefix, prefix_all}
use Common.{bodies_of, bodies_of_all, copies_of, Version}
use Common.item
use Rattle.ag_value.specs.declared.value.Value.TheVariants.{outs-Text}
use Rattle.treefile.specs.Laws.{OneReading, OneTreeAtEnd, OneTreeBefore}
use Rattle.treefile.proofs.framing.Backward.{reads_same}
use Rattle.treefile.proofs.records.Orders.{turned}
use Rattle.treefile.proofs.records.Records.{file_back}
use Rattle.treefile.proofs.records.Spelled.{one_node, one_token}

-- equal text values have equal texts
pub text_same : (x y : List ℕ) → Text x ≡ Text y → x ≡ y
text_same x y e = cc (outs-Text x, outs-Text y)

-- a leaf's one attribute, of pass 0
same_leaf : (k : ℕ) (e f : ℕ → Value) → e 0 ≡ f 0 → SameAt (λ p. p ≤ k) (0 ∷ []) e f
same_leaf k e f same zero p is le = same
same_leaf k e f same (suc a) p is le = cc

module _ (version : Version) (g : Grammar) (m : Passes) (k : ℕ) (few : IsNumbered g) where
  mutual
    one_tree : (d : Direction) (x : Item) (t s : Tree) (u w : Valuation) (xs ys : List (List ℕ)) → Fits g x t → Fits g x s
        → Solves NoRule g t u → Solves NoRule g s w → IsWellOn (λ p. p ≤ k) g m t u → IsWellOn (λ p. p ≤ k) g m s w
        → prefix d (bodies_of version g m k t u) ++ xs ≡ prefix d (bodies_of version g m k s w) ++ ys
        → (t ≡ s) × Same (λ p. p ≤ k) g m t u w × (xs ≡ ys)
    one_tree d (item.Terminal (Class c)) (leaf a x) (leaf b y) u w xs ys f h tu tw wu ww e =
        let text : Text x ≡ Text y =
        one_token b x y (rw tu at (wu 0 0 refl (omega arith))) (rw tw at (ww 0 0 refl (omega arith))) (cc) in
        (cc (text_same x y text), same_leaf k (u []) (w []) (cc), cc)
    one_tree d (item.Symbol c) (node p ts) (node r ss) u w xs ys f h tu tw wu ww e =
        let own =
        one_node version g m k p r (u []) (w []) (copies_of g m k ts (children u)) (copies_of g m k ss (children w))
        (omega (arith, slice_get_within g.productions p f.0 f.1)) (omega (arith, slice_get_within g.productions r h.0 h.1)) wu.0
        ww.0 (cc) in
        let production : h.0 ≡ f.0 = cc in
        let below =
        one_forest d (stored_items f.0.items) ts ss (children u) (children w) xs ys f.3 (rw production at h.3) tu.1 tw.1 wu.1
        ww.1 (cc) in
        (cc, (own.1, below.1), below.2)
    one_tree d (item.Terminal (Class c)) (leaf a x) (node r ss) u w xs ys f h tu tw wu ww e = elim h [ ]
    one_tree d (item.Symbol c) (node p ts) (leaf b y) u w xs ys f h tu tw wu ww e = elim h [ ]
    one_tree d x (leaf a y) s u w xs ys f h tu tw wu ww e = elim f [ ]
    one_tree d x (node p ts) s u w xs ys f h tu tw wu ww e = elim f [ ]

    one_forest : (d : Direction) (is : List Item) (ts ss : Forest) (us ws : ℕ → Valuation) (xs ys : List (List ℕ))
        → FitsAll g is ts → FitsAll g is ss → SolvesAll NoRule g ts us → SolvesAll NoRule g ss ws
        → AtEachNodeOf (WellAt (λ p. p ≤ k)) g m ts us us → AtEachNodeOf (WellAt (λ p. p ≤ k)) g m ss ws ws
        → prefix_all d (bodies_of_all version g m k ts us) ++ xs ≡ prefix_all d (bodies_of_all version g m k ss ws) ++ ys
        → (ts ≡ ss) × AtEachNodeOf (SameAt (λ p. p ≤ k)) g m ts us ws × (xs ≡ ys)
    one_forest d [] none none us ws xs ys f h tu tw wu ww e = (refl, tt, e)
    one_forest LeftToRight (x ∷ is) (more t ts) (more s ss) us ws xs ys f h tu tw wu ww e =
        let first =
        one_tree LeftToRight x t s (us 0) (ws 0) (prefix_all LeftToRight (bodies_of_all version g m k ts (rest us)) ++ xs)
        (prefix_all LeftToRight (bodies_of_all version g m k ss (rest ws)) ++ ys) f.0 h.0 tu.0 tw.0 wu.0 ww.0
        (simp append_assoc at e) in
        let others = one_forest LeftToRight is ts ss (rest us) (rest ws) xs ys f.1 h.1 tu.1 tw.1 wu.1 ww.1 first.2 in
        (cc, (first.1, others.1), others.2)
    one_forest RightToLeft (x ∷ is) (more t ts) (more s ss) us ws xs ys f h tu tw wu ww e =
        let others =
        one_forest RightToLeft is ts ss (rest us) (rest ws) (prefix RightToLeft (bodies_of version g m k t (us 0)) ++ xs)
        (prefix RightToLeft (bodies_of version g m k s (ws 0)) ++ ys) f.1 h.1 tu.1 tw.1 wu.1 ww.1 (simp append_assoc at e) in
        let first = one_tree RightToLeft x t s (us 0) (ws 0) xs ys f.0 h.0 tu.0 tw.0 wu.0 ww.0 others.2 in
        (cc, (first.1, others.1), first.2)
    one_forest d [] none (more s ss) us ws xs ys f h tu tw wu ww e = elim h [ ]
    one_forest d (x ∷ is) (more t ts) none us ws xs ys f h tu tw wu ww e = elim h [ ]
    one_forest d is ts ss us ws xs ys f h tu tw wu ww e = elim f [ ]

pub leading_tree : OneTreeBefore
leading_tree version g m k d x t s u w rest others few is_t is_s e =
    one_tree version g m k few d x t s u w rest others is_t.fits is_s.fits is_t.texts is_s.texts is_t.well is_s.well e

-- from its end, a list that ends with a postfix list begins with a prefix list: so `OneTreeAtEnd` follows from `OneTreeBefore`
pub tree_at_end : OneTreeAtEnd
tree_at_end version g m k d x t s u w leading others few is_t is_s e =
    let a = bodies_of version g m k t u in
    let b = bodies_of version g m k s w in
    let all =
    leading_tree version g m k (other d) x t s u w (reverse leading) (reverse others) few is_t is_s
    (cc (reverse-append leading (postfix d a), turned d a, reverse-append others (postfix d b), turned d b)) in
    (all.0, all.1, cc (reverse-reverse leading, reverse-reverse others))

pub one_file : OneReading
one_file version g m k t s u w content usable fits few tree_t tree_s is_t is_s =
    let d = other (direction_of k) in
    let same =
    reads_same version content (prefix d (bodies_of version g m k t u)) (prefix d (bodies_of version g m k s w))
    (length content) (file_back version g m k t u content fits tree_t is_t usable)
    (file_back version g m k s w content fits tree_s is_s usable) in
    let one =
    leading_tree version g m k d (item.Symbol g.start) t s u w [] [] few
    (record { fits = tree_t; texts = is_t.texts; well = is_t.well })
    (record { fits = tree_s; texts = is_s.texts; well = is_s.well }) (cc) in
    (one.0, one.1)
