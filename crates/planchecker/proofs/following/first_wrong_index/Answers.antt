use Rattle.planchecker.proofs.Common.{ap, sym, ◌∙◌, arith, slice_get-get_or, State}
use Rattle.planchecker.proofs.Completing.{next_state, on_way, too_short, whole, wrong_at}
use Rattle.planchecker.proofs.Loops.{prefix_more, is_no, is_yes}
use Rattle.planchecker.proofs.following.first_wrong_index.Goals as goal

pub may_run-requires : goal.may_run-requires
may_run-requires c = let i = c.loop-index.invariant in
    on_way _ i.phase i.turn c.loop-index-test.true c.arity-children.ensures _ c.requires.planned _ i.may

pub phase_after-phase-requires : goal.phase_after-phase-requires
phase_after-phase-requires c = let i = c.loop-index.invariant in
    on_way _ i.phase i.turn c.loop-index-test.true c.arity-children.ensures _ c.requires.planned _ i.may

pub turn_after-turn-requires : goal.turn_after-turn-requires
turn_after-turn-requires c = let i = c.loop-index.invariant in
    on_way _ i.phase i.turn c.loop-index-test.true c.arity-children.ensures _ c.requires.planned _ i.may

pub returns-then-not-may_run : goal.returns-then-not-may_run
returns-then-not-may_run c =
    wrong_at _ _ c.requires.planned _ c.requires.pass _ c.loop-index.index (let less = c.loop-index-test.true in omega arith)
    c.loop-index.invariant.may _ (slice_get-get_or c.args.list.now _ _ c.loop-index-test.true) (is_no c.if-not-may_run.ensures)

pub loop-index-preserved : goal.loop-index-preserved
loop-index-preserved c =
    let is = slice_get-get_or c.args.list.now c.loop-index.index _ c.loop-index-test.true in
    let next = next_state c.args.context.now.production.now c.args.list.now c.loop-index.index _ is in
    record {
      phase = c.phase_after-phase.ensures ∙ ap (λ (s : State). s.phase) (sym next);
      turn = c.turn_after-turn.ensures ∙ ap (λ (s : State). s.turn) (sym next);
      may = prefix_more _ _ _ _ is c.loop-index.invariant.may (is_yes c.if-not-may_run.ensures);
    }

pub returns-in-Ended : goal.returns-in-Ended
returns-in-Ended c =
    let over = c.loop-index-test.false in
    whole _ _ c.requires.planned _ c.requires.pass _ c.loop-index.index (omega arith) c.loop-index.invariant.may (omega arith)
    (sym c.loop-index.invariant.phase ∙ c.in-Ended.is)

pub returns-in_default : goal.returns-in_default
returns-in_default c =
    let over = c.loop-index-test.false in
    too_short _ _ c.requires.planned _ c.requires.pass _ c.loop-index.index (omega arith) c.loop-index.invariant.may (omega arith)
    (λ e. c.in_default.not-Ended (c.loop-index.invariant.phase ∙ e))
