use Rattle.passcode.proofs.Common
use Common.{◌≡◌, ◌++◌, [], length, refl, ap, ◌∙◌, arith, flat_map, range_with_len, passes_of, remaining_for}
use Rattle.passcode.proofs.Loops.{pushed_more}
use Rattle.passcode.proofs.course.ListContext.append_instructions.Goals as goal

pub loop-attr-preserved : goal.loop-attr-preserved
loop-attr-preserved c = pushed_more _ c.loop-attr.attr _ _ _ _ c.loop-attr.invariant c.in_ok-append_instruction.ensures refl

pub returns : goal.returns
returns c =
    let all : c.loop-attr.attr ≡ length c.passes_at-attr-end.result.now = omega arith in
    c.loop-attr.invariant
    ∙ ap (λ n. c.args.list.now.items ++ flat_map
    (λ a. remaining_for (passes_of c.args.self.now.assignment.now) c.args.self.now.production.now c.args.self.now.pass []
    (record { place = c.args.place; attr = a })) (range_with_len 0 n)) (all ∙ ap length c.passes_at-attr-end.ensures)
