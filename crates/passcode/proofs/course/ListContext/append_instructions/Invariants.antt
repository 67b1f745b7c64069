use Rattle.passcode.proofs.Common.{◌≡◌, ◌++◌, [], flat_map, range_with_len, passes_of, remaining_for}
use Rattle.passcode.proofs.course.ListContext.append_instructions.Given as goal

abbrev pub invariant-loop-attr : goal.invariant-loop-attr
invariant-loop-attr l =
    l.list.items ≡ l.initial.list.items ++ flat_map
    (λ a. remaining_for (passes_of l.self.assignment.now) l.self.production.now l.self.pass []
    (record { place = l.place; attr = a })) (range_with_len 0 l.attr)
