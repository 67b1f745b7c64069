-- The values of the expressions of the sample grammars.
use Rattle.ag_grammar.proofs.Common
use Common.{ℕ, ℤ, ◌≡◌, List, [], ◌∷◌, refl, ap, ap₂, ◌∙◌, ◌+ℤ◌, sym, pos, Value, Num, outs-Num, Node, roll-Node, fold-roll-Node}
use Common.{map-Node, Node-F, Add, fit, number_value, operation_result}
use Common.node_of
use Rattle.ag_grammar.specs.expressions.Evaluation.{Meaning, value_step, value_in, value_of}
use Rattle.ag_value.specs.operations.Arguments.{leftmost}
use Rattle.ag_value.proofs.Layers.{depth-Num, weight-Num}

-- one level of a tree at a time
pub value_layer : (x : Node-F Node) (env : ℕ → Value) (bound : List Value)
    → value_in (roll-Node x) env bound ≡ value_step (map-Node Node Meaning value_in x) env bound
value_layer x env bound = ap (λ (m : Meaning). m env bound) (fold-roll-Node Meaning value_step x)

pub occurrence_gives : (k : ℕ) (env : ℕ → Value) → value_of (node_of.Occurrence k) env ≡ env k
occurrence_gives k env = ap (λ e. value_of e env) (sym (node_of.rolls-Occurrence k)) ∙ value_layer (Node-F.Occurrence k) env []

-- a number is within the limits
pub fit_number : (n : ℤ) → fit (Num n) ≡ Num n
fit_number n = rw (depth-Num n, weight-Num n) refl

pub number_gives : (n : ℤ) (env : ℕ → Value) → value_of (node_of.Literal (Num n)) env ≡ Num n
number_gives n env =
    ap (λ e. value_of e env) (sym (node_of.rolls-Literal (Num n))) ∙ value_layer (Node-F.Literal (Num n)) env [] ∙ fit_number n

-- the sum of two numbers
sum_gives : (m n : ℤ) → operation_result Add (Num m) (Num n) ≡ number_value (m +ℤ n)
unfolding leftmost
sum_gives m n = simp outs-Num

-- one more than a number
pub and_one : (n : ℤ) (env : ℕ → Value) → env 0 ≡ Num n
    → value_of (node_of.Chain (node_of.Occurrence 0) ((Add, node_of.Literal (Num (pos 1))) ∷ [])) env ≡ number_value (n +ℤ pos 1)
and_one n env e =
    ap (λ e. value_of e env) (sym (node_of.rolls-Chain (node_of.Occurrence 0) ((Add, node_of.Literal (Num (pos 1))) ∷ [])))
    ∙ value_layer (Node-F.Chain (node_of.Occurrence 0) ((Add, node_of.Literal (Num (pos 1))) ∷ [])) env []
    ∙ ap₂ (operation_result Add) (occurrence_gives 0 env ∙ e) (number_gives (pos 1) env) ∙ sum_gives n (pos 1)
