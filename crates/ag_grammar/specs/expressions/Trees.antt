-- The well-formed trees: each number of an occurrence or of a bound name is in range. All definitions are
-- this project's.
use Rattle.std.specs.Prelude.{ℕ, suc, Bool, true, ◌&&◌, nat_lt, List, [], ◌∷◌, map}
use Rattle.ag_grammar.specs.declared.syntax.node.Operator.{Operator}
use Rattle.ag_grammar.specs.declared.syntax.node.Node.{Node}
use Rattle.ag_grammar.specs.declared.syntax.node.Node.TheFolds.{fold-Node}
use Rattle.ag_grammar.specs.declared.syntax.node.Node.TheOpen.{Node-F}

-- whether the tests of all operands of a chain after the first hold with `bound` names bound around the chain
abbrev pub all_hold : ℕ → List (Operator × (ℕ → Bool)) → Bool
all_hold bound [] = true
all_hold bound (x ∷ xs) = x.1 bound && all_hold bound xs

-- whether the tests of all items of a list hold with `bound` names bound around the list
abbrev pub each_holds : ℕ → List (ℕ → Bool) → Bool
each_holds bound [] = true
each_holds bound (x ∷ xs) = x bound && each_holds bound xs

-- The test of `is_within` for a tree, from the tests for its parts. A test gets the number `bound` of the names that are bound
-- around a tree; a `let` binds one more in its body. n is the bound for the numbers of occurrences.
abbrev pub below_step : ℕ → Node-F (ℕ → Bool) → ℕ → Bool
below_step n (Node-F.Literal v) bound = true
below_step n (Node-F.Occurrence k) bound = nat_lt k n
below_step n (Node-F.Bound k) bound = nat_lt k bound
below_step n (Node-F.Chain first others) bound = first bound && all_hold bound others
below_step n (Node-F.Let e f) bound = e bound && f (suc bound)
below_step n (Node-F.If c e f) bound = c bound && (e bound && f bound)
below_step n (Node-F.Unary call a) bound = a bound
below_step n (Node-F.Binary call a b) bound = a bound && b bound
below_step n (Node-F.Put t k v) bound = t bound && (k bound && v bound)
below_step n (Node-F.List items) bound = each_holds bound items
below_step n Node-F.EmptyTable bound = true

-- Whether, in a tree with some number of names bound around it (the last argument), the number of each occurrence is below n, and
-- the number of each bound name is below the number of names that are bound where it is.
abbrev pub is_within : ℕ → Node → ℕ → Bool
is_within n = fold-Node (ℕ → Bool) (below_step n)

-- the same for a tree with no name bound around it
abbrev pub is_below : ℕ → Node → Bool
is_below n e = is_within n e 0

-- `is_within` for every operand of a chain after the first
abbrev pub all_below : ℕ → ℕ → List (Operator × Node) → Bool
all_below n bound others = all_hold bound (map (λ p. (p.0, is_within n p.1)) others)
