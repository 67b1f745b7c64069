use Rattle.ag_eval.proofs.Chained.{below_more, chained_more}
use Rattle.ag_eval.proofs.evaluation.Evaluation.flat_chain.Goals as goal

pub loop-other-preserved : goal.loop-other-preserved
loop-other-preserved g c =
    let others = c.args.others.now in
    let i = c.loop-other.other-index in
    let x = c.other-item.result in
    let more = c.loop-other-test.true in
    record {
      same = chained_more others i x more _ _ _ _ _ _ c.other-item.is c.in_ok-right.ensures c.in_ok-so_far-2.ensures
          c.loop-other.invariant.same;
      below = below_more _ _ others i x more c.loop-other.invariant.below;
    }
