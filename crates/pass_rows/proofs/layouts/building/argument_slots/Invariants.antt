use Rattle.pass_rows.proofs.Common.{◌≡◌, ◌++◌, drop, map, passes_of, argument_slot_by}
use Rattle.pass_rows.proofs.layouts.building.argument_slots.Given as goal

abbrev pub invariant-loop-argument : goal.invariant-loop-argument
invariant-loop-argument l =
    l.slots.items
    ++ map (argument_slot_by (passes_of l.setting.plan.now.assignment) l.setting.pass l.places)
    (drop l.argument-index l.arguments)
    ≡ map (argument_slot_by (passes_of l.setting.plan.now.assignment) l.setting.pass l.places) l.arguments
