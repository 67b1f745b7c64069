use Rattle.passrun.proofs.Common
use Common.{[], ◌∷◌, ◌++◌, ◌∙◌, ap, reverse, arith, slice_get_within, OpenNode, RootPath}
use Rattle.passrun.proofs.steps.Going.{child_of, continues, goes}
use Rattle.passrun.proofs.passing.machine.open_child.Goals as goal

pub width-width-requires-clause-there : goal.width-width-requires-clause-there
width-width-requires-clause-there c =
    let h = child_of c.args.waiting.now.root (reverse c.args.waiting.now.nodes) c.requires.next c.requires.passing in
    slice_get_within c.args.context.now.setting.grammar.now.productions c.args.node.child h.production h.there

pub push-requires-clause-path : goal.push-requires-clause-path
push-requires-clause-path c =
    rw c.left_at.ensures
    (continues c.args.waiting.now.root c.args.waiting.now.nodes c.requires.next c.requires.passing).0

pub push-requires-clause-room : goal.push-requires-clause-room
push-requires-clause-room c =
    (continues c.args.waiting.now.root c.args.waiting.now.nodes c.requires.next c.requires.passing).1

pub overflow_sub-values : goal.overflow_sub-values
overflow_sub-values c =
    let h = child_of c.args.waiting.now.root (reverse c.args.waiting.now.nodes) c.requires.next c.requires.passing in
    omega (arith, c.width-width.ensures h.production h.there, h.width)

pub returns-clause-goes : goal.returns-clause-goes
returns-clause-goes c =
    rw c.begun.ensures
    (goes c.args.waiting.now.root c.requires.context.sound _ _ _ _ _ _ c.requires.next c.width-width.ensures
    (ap (λ (s : RootPath). s.nodes) c.in_ok-push.ensures.pushed
    ∙ ap (λ (x : OpenNode). c.args.waiting.now.nodes ++ x ∷ []) c.left_at.ensures))
