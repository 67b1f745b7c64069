use Rattle.std.proofs.Common.{◌∙◌, sym, ◌≡◌, arith}
use Rattle.tree_index.proofs.Kids.{later_first, later_next}
use Rattle.tree_index.proofs.NoChild.{if_none, no_first, no_room, no_size}
use Rattle.tree_index.proofs.index.TreeIndex.child_after.Goals as goal

pub loop-init : goal.loop-init
loop-init c = rw c.in_ok-child.ensures.1 (later_first c.args.self.now c.args.node)

pub loop-preserved : goal.loop-preserved
loop-preserved c =
    rw c.in_ok-child-2.ensures.1
    (later_next c.args.self.now c.args.node c.loop.counter c.loop.child c.in_ok-size.field-0
    (sym c.size.ensures ∙ c.in_ok-size.was) c.loop.invariant)

pub returns-clause-later : goal.returns-clause-later
returns-clause-later c =
    let all : c.loop.counter ≡ c.args.before = omega arith in
    rw all at c.loop.invariant

pub returns-in_err-child-clause-complete : goal.returns-in_err-child-clause-complete
returns-in_err-child-clause-complete c =
    if_none c.from_residual.result (no_first c.args.self.now c.args.node c.args.before c.in_err-child.ensures)

pub returns-in_err-size-clause-complete : goal.returns-in_err-size-clause-complete
returns-in_err-size-clause-complete c =
    if_none c.from_residual-in_err-size.result
    (no_size c.args.self.now c.args.node c.args.before c.loop.counter c.loop.child c.loop-test.true c.loop.invariant
    (sym c.size.ensures ∙ c.in_err-size.was))

pub returns-in_err-child-2-clause-complete : goal.returns-in_err-child-2-clause-complete
returns-in_err-child-2-clause-complete c =
    if_none c.from_residual-in_err-child-2.result
    (no_room c.args.self.now c.args.node c.args.before c.loop.counter c.loop.child c.loop-test.true c.loop.invariant
    c.in_ok-size.field-0 (sym c.size.ensures ∙ c.in_ok-size.was) c.in_err-child-2.ensures)
