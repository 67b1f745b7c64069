use Rattle.ag_grammar.proofs.expressions.Depending.{rule_has_one_value, rule_holds_by_one}
use Rattle.ag_grammar.proofs.value_laws.a_rule_has_one_value.Goals as goal

pub returns : goal.returns
returns c = record { value = rule_has_one_value; holds = rule_holds_by_one }
