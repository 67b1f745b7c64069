use Rattle.pass_rows.proofs.Common.{◌≡◌, ◌++◌, drop, map, passes_of, rule_slots_by}
use Rattle.pass_rows.proofs.layouts.building.slots_of_rules.Given as goal

abbrev pub invariant-loop-rule : goal.invariant-loop-rule
invariant-loop-rule l =
    l.slots.items
    ++ map (rule_slots_by (passes_of l.setting.plan.now.assignment) l.setting.pass l.width l.places) (drop l.rule-index l.rules)
    ≡ map (rule_slots_by (passes_of l.setting.plan.now.assignment) l.setting.pass l.width l.places) l.rules
