-- The value of a tree depends only on the values of the occurrences in it.
use Rattle.ag_grammar.proofs.Common
use Common.{ℕ, zero, suc, ◌≡◌, ◌<◌, Bool, true, false, ◌||◌, nat_eq, List, [], ◌∷◌, ◌++◌, Some, map, slice_get, get_or, length}
use Common.{refl, ap, ap₂, ◌∙◌, sym, subst, arith, eq-eqb, ne_eqb, or_left, or_right, Value, Target, Operator, Node, roll-Node}
use Common.{ind-Node, map-Node, Node-F, operation_result}
use Rattle.std.proofs.lemmas.Option.{slice_get-get_or}
use Rattle.ag_grammar.specs.expressions.Evaluation.{Meaning, chain_value, item_values, value_in, value_of, value_step}
use Rattle.ag_grammar.specs.expressions.Laws.{RuleHasOneValue, RuleHoldsByOne, ValueOfOccurrences}
use Rattle.ag_grammar.specs.expressions.Occurring.{AgreeOn, has_occurrence, has_step, some_item, some_operand}
use Rattle.ag_grammar.specs.grammars.Sample.{rule_s}
use Rattle.ag_grammar.specs.values.Calls.{unary_call_result, binary_call_result, choice_of, put}
use Rattle.ag_value.specs.operations.Lists.{listed}
use Rattle.ag_grammar.proofs.expressions.Occurring.{alone, has_in, has_layer, has_sum, occurrences_are_listed, occurs}
use Rattle.ag_grammar.proofs.expressions.Worked.{value_layer}

-- the meaning of the operand in one step of a chain
abbrev gives : Operator × Node → Operator × Meaning
gives p = (p.0, value_in p.1)

-- a tree has the same value in environments that agree on it
abbrev IsSettled : Node → Type 0
IsSettled e = (env other : ℕ → Value) → AgreeOn e env other → (bound : List Value) → value_in e env bound ≡ value_in e other bound

-- a subtree with this property
abbrev Settled : Type 0
Settled = (e : Node) × IsSettled e

abbrev tree : Settled → Node
tree e = e.0

abbrev bare : Operator × Settled → Operator × Node
bare p = (p.0, tree p.1)

-- the two environments agree on the occurrences of these operands, or of these items
abbrev SameOperands : (env other : ℕ → Value) → List (Operator × Settled) → Type 0
SameOperands env other xs = (k : ℕ) → some_operand (map (has_in k) (map bare xs)) ≡ true → env k ≡ other k

abbrev SameItems : (env other : ℕ → Value) → List Settled → Type 0
SameItems env other xs = (k : ℕ) → some_item (map (has_occurrence k) (map tree xs)) ≡ true → env k ≡ other k

settled_chain : (env other : ℕ → Value) (bound : List Value) (xs : List (Operator × Settled)) (v w : Value) → v ≡ w
    → SameOperands env other xs
    → chain_value env bound v (map gives (map bare xs)) ≡ chain_value other bound w (map gives (map bare xs))
settled_chain env other bound [] v w e same = e
settled_chain env other bound (x ∷ xs) v w e same =
    let own =
    x.1.1 env other (λ k h. same k (or_left (has_occurrence k x.1.0) (some_operand (map (has_in k) (map bare xs))) h))
    bound in
    settled_chain env other bound xs (operation_result x.0 v (value_in x.1.0 env bound))
    (operation_result x.0 w (value_in x.1.0 other bound)) (ap₂ (operation_result x.0) e own)
    (λ k h. same k (or_right (has_occurrence k x.1.0) (some_operand (map (has_in k) (map bare xs))) h))

settled_items : (env other : ℕ → Value) (bound : List Value) (xs : List Settled) → SameItems env other xs
    → item_values env bound (map value_in (map tree xs)) ≡ item_values other bound (map value_in (map tree xs))
settled_items env other bound [] same = refl
settled_items env other bound (x ∷ xs) same =
    ap₂ (λ (v : Value) (vs : List Value). v ∷ vs)
    (x.1 env other (λ k h. same k (or_left (has_occurrence k x.0) (some_item (map (has_occurrence k) (map tree xs))) h)) bound)
    (settled_items env other bound xs
    (λ k h. same k (or_right (has_occurrence k x.0) (some_item (map (has_occurrence k) (map tree xs))) h)))

-- one level of a tree
abbrev SameLayer : (env other : ℕ → Value) → Node-F Settled → Type 0
SameLayer env other y = (k : ℕ) → has_step k (map-Node Node Bool (has_occurrence k) (map-Node Settled Node tree y)) ≡ true
    → env k ≡ other k

settled_layer : (env other : ℕ → Value) (bound : List Value) (y : Node-F Settled) → SameLayer env other y
    → value_step (map-Node Node Meaning value_in (map-Node Settled Node tree y)) env bound ≡ value_step
    (map-Node Node Meaning value_in (map-Node Settled Node tree y)) other bound
settled_layer env other bound (Node-F.Literal v) same = refl
settled_layer env other bound (Node-F.Occurrence k) same = same k (eq-eqb k k refl)
settled_layer env other bound (Node-F.Bound k) same = refl
settled_layer env other bound (Node-F.Chain first others) same =
    settled_chain env other bound others (value_in first.0 env bound) (value_in first.0 other bound)
    (first.1 env other (λ k h. same k (or_left (has_occurrence k first.0) (some_operand (map (has_in k) (map bare others))) h))
    bound)
    (λ k h. same k (or_right (has_occurrence k first.0) (some_operand (map (has_in k) (map bare others))) h))
settled_layer env other bound (Node-F.Let e f) same =
    f.1 env other (λ k h. same k (or_right (has_occurrence k e.0) (has_occurrence k f.0) h))
    (bound ++ value_in e.0 env bound ∷ [])
    ∙ ap (λ v. value_in f.0 other (bound ++ v ∷ []))
    (e.1 env other (λ k h. same k (or_left (has_occurrence k e.0) (has_occurrence k f.0) h)) bound)
settled_layer env other bound (Node-F.If c e f) same =
    let later : (k : ℕ) → (has_occurrence k e.0 || has_occurrence k f.0) ≡ true → env k ≡ other k =
    λ k h. same k (or_right (has_occurrence k c.0) (has_occurrence k e.0 || has_occurrence k f.0) h) in
    ap (λ v. choice_of v (value_in e.0 env bound) (value_in f.0 env bound))
    (c.1 env other (λ k h. same k (or_left (has_occurrence k c.0) (has_occurrence k e.0 || has_occurrence k f.0) h)) bound)
    ∙ ap₂ (choice_of (value_in c.0 other bound))
    (e.1 env other (λ k h. later k (or_left (has_occurrence k e.0) (has_occurrence k f.0) h)) bound)
    (f.1 env other (λ k h. later k (or_right (has_occurrence k e.0) (has_occurrence k f.0) h)) bound)
settled_layer env other bound (Node-F.Unary call a) same = ap (unary_call_result call) (a.1 env other same bound)
settled_layer env other bound (Node-F.Binary call a b) same =
    ap₂ (binary_call_result call) (a.1 env other (λ k h. same k (or_left (has_occurrence k a.0) (has_occurrence k b.0) h)) bound)
    (b.1 env other (λ k h. same k (or_right (has_occurrence k a.0) (has_occurrence k b.0) h)) bound)
settled_layer env other bound (Node-F.Put t i v) same =
    let later : (k : ℕ) → (has_occurrence k i.0 || has_occurrence k v.0) ≡ true → env k ≡ other k =
    λ k h. same k (or_right (has_occurrence k t.0) (has_occurrence k i.0 || has_occurrence k v.0) h) in
    ap (λ w. put w (value_in i.0 env bound) (value_in v.0 env bound))
    (t.1 env other (λ k h. same k (or_left (has_occurrence k t.0) (has_occurrence k i.0 || has_occurrence k v.0) h)) bound)
    ∙ ap₂ (put (value_in t.0 other bound))
    (i.1 env other (λ k h. later k (or_left (has_occurrence k i.0) (has_occurrence k v.0) h)) bound)
    (v.1 env other (λ k h. later k (or_right (has_occurrence k i.0) (has_occurrence k v.0) h)) bound)
settled_layer env other bound (Node-F.List items) same = ap listed (settled_items env other bound items same)
settled_layer env other bound Node-F.EmptyTable same = refl

settled_roll : (y : Node-F Settled) → IsSettled (roll-Node (map-Node Settled Node tree y))
settled_roll y env other same bound =
    let x : Node-F Node = map-Node Settled Node tree y in
    value_layer x env bound
    ∙ settled_layer env other bound y (λ k h. same k (has_layer k x ∙ h))
    ∙ sym (value_layer x other bound)

settled : (e : Node) → IsSettled e
settled = ind-Node IsSettled (λ x y is. subst (λ z. IsSettled (roll-Node z)) is (settled_roll y))

pub value_of_occurrences : ValueOfOccurrences
value_of_occurrences e env other bound same = settled e env other same bound

-- there is an argument at each index below the number of arguments
argument : (xs : List Target) (k : ℕ) → k < length xs → (o : Target) × (slice_get xs k ≡ Some o)
argument [] k less = absurd (omega arith)
argument (o ∷ xs) k less = (get_or (o ∷ xs) k o, slice_get-get_or (o ∷ xs) k o less)

pub rule_has_one_value : RuleHasOneValue
rule_has_one_value g q r e env other named lends also = settled r.expr.tree env other same []
  where
    same : AgreeOn r.expr.tree env other
    same k has =
        let n = length r.expr.occurrences in
        let less : k < n = occurrences_are_listed n k 0 r.expr.tree named.listed has in
        let long = named.arguments.equally_long in
        let o = argument r.args k (omega arith) in
        lends k o.0 o.1 ∙ sym (also k o.0 o.1)

pub rule_holds_by_one : RuleHoldsByOne
rule_holds_by_one g q r e env named lends is other also = is ∙ rule_has_one_value g q r e env other named lends also

-- `$0.i + 1` has the same value in two environments with the same value for its occurrence
pub same : (env other : ℕ → Value) → env 0 ≡ other 0 → value_of rule_s.expr.tree env ≡ value_of rule_s.expr.tree other
same env other e = value_of_occurrences rule_s.expr.tree env other [] at
  where
    first : (k : ℕ) → (nat_eq 0 k || (false || false)) ≡ true → env k ≡ other k
    first zero h = e
    first (suc k) h =
        let other : nat_eq 0 (suc k) ≡ false = ne_eqb 0 (suc k) (λ z. omega arith) in
        let none : false ≡ true = ap (λ b. b || (false || false)) (sym other) ∙ h in
        let bad : ⊥ = cc in
        absurd bad

    at : (k : ℕ) → has_occurrence k rule_s.expr.tree ≡ true → env k ≡ other k
    at k h = first k (sym (has_sum k) ∙ h)

pub ruleset one_occurrence = (occurs, alone, same)
