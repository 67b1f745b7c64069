use Rattle.ag_eval.proofs.Common.{◌≡◌, subst, IfOk, Value, operand_value}
use Rattle.ag_grammar.specs.values.Calls.{binary_call_result}
use Rattle.ag_eval.proofs.calls.call_binary.Goals as goal

pub returns : goal.returns
returns c =
    let s = c.args.bindings.now in
    let first = operand_value s c.args.first in
    record {
      value = subst
          (λ (second : Value). IfOk c.call_reading.result (λ o. operand_value s o ≡ binary_call_result c.args.call first second))
          c.get.ensures.value c.call_reading.ensures.value;
      within = c.call_reading.ensures.within;
    }
