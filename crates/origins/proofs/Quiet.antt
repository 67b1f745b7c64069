-- No error arises in a rule that only copies an occurrence.
use Rattle.origins.proofs.Common
use Common.{List, [], ◌≡◌, ℕ, Bool, true, false, cond, Option, Some, None, refl, nat_eq, eqb-true, number_of, ErrorCode, Divide}
use Common.{Overflow, Value, outs-Fault, Node, value_in, value_of, fault_of, exchanged, is_same_error}
use Common.value
use Common.node_of
use Rattle.ag_grammar.specs.declared.syntax.node.Node.TheFolds.{fold-roll-Node}
use Rattle.origins.specs.Arising.{arises, exchanged_to}

value-Occurrence : (k : ℕ) (env : ℕ → Value) (bound : List Value) → value_in (node_of.Occurrence k) env bound ≡ env k
value-Occurrence k env bound = rw (← node_of.rolls-Occurrence k, fold-roll-Node)

-- the error that is put in place of an error is not the same one
another_error : (c : ErrorCode) (v : Value) (b : Bool) → nat_eq (number_of c) 1 ≡ b
    → is_same_error (Some c) (fault_of (cond b (value.Fault Divide) (value.Fault Overflow))) ≡ false
another_error c v true e = cc (eqb-true (number_of c) 1 e, outs-Fault Divide)
another_error c v false e = cc (outs-Fault Overflow)

pub exchanged_differs : (v : Value) (o : Option ErrorCode)
    → is_same_error o (fault_of (exchanged_to (value.Fault Divide) (value.Fault Overflow) o v)) ≡ false
exchanged_differs v None = refl
exchanged_differs v (Some c) = another_error c v (nat_eq (number_of c) 1) refl

pub occurrence_is_quiet : (e : Node) (k : ℕ) (env : ℕ → Value) → e ≡ node_of.Occurrence k → arises e env ≡ false
unfolding arises
occurrence_is_quiet e k env is =
    let one : value_of e env ≡ env k = cc (value-Occurrence k env []) in
    let other : value_of e (λ k. exchanged (env k)) ≡ exchanged (env k) = cc (value-Occurrence k (λ k. exchanged (env k)) []) in
    cc (exchanged_differs (env k) (fault_of (env k)))
