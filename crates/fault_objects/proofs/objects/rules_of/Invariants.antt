use Rattle.std.proofs.Common.{◌≡◌, ◌++◌, drop, map}
use Rattle.fault_objects.specs.Objects.{rule_data}
use Rattle.serde_json.specs.View.{view}
use Rattle.fault_objects.proofs.objects.rules_of.Given as goal

abbrev pub invariant-loop-rule : goal.invariant-loop-rule
invariant-loop-rule l = map view l.values.items ++ map rule_data (drop l.rule-index l.rules) ≡ map rule_data l.rules
