use Rattle.planchecker.proofs.Common.{inl, inr, arith, slice_get-get_or, start}
use Rattle.planchecker.proofs.Completing.{prefix_is_run, leading_run}
use Rattle.planchecker.proofs.Loops.{prefix_more, is_no, is_yes, says_no, says_yes}
use Rattle.planchecker.proofs.following.NodeState.was_run.Goals as goal

pub returns-then-runs_rule : goal.returns-then-runs_rule
returns-then-runs_rule c =
    let n = c.args.self.now in
    let w = c.requires.within in
    let less = c.loop-index-test.true in
    let at = slice_get-get_or n.list.now c.loop-index.index _ (omega arith) in
    says_yes (prefix_is_run n.context.production.now c.args.number n.list.now start n.index
    (inr (c.loop-index.index, _, less, at, is_yes c.if-runs_rule.ensures)))

pub loop-index-preserved : goal.loop-index-preserved
loop-index-preserved c =
    let w = c.requires.within in
    let less = c.loop-index-test.true in
    prefix_more _ _ _ _ (slice_get-get_or c.args.self.now.list.now c.loop-index.index _ (omega arith)) c.loop-index.invariant
    (is_no c.if-runs_rule.ensures)

pub returns : goal.returns
returns c =
    let n = c.args.self.now in
    says_no (λ has. elim (leading_run n.context.production.now c.args.number n.list.now start n.index has) [
      | inl none ↦ (let e = none.1 in let bad : ⊥ = cc in bad)
      | inr h ↦ (let past = c.loop-index-test.false in let less = h.2 in c.loop-index.invariant h.0 h.1 (omega arith) h.3 h.4)
    ])
