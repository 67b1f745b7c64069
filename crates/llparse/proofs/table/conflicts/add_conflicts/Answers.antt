use Rattle.llparse.proofs.Common.{◌≤◌, ap, arith, length}
use Rattle.llparse.proofs.look_ahead.Conflicts.{next_row}
use Rattle.llparse.proofs.table.conflicts.add_conflicts.Goals as goal

pub loop-second-preserved : goal.loop-second-preserved
loop-second-preserved c = λ old. c.in_ok-add_conflict.ensures (c.loop-second.invariant old)

pub returns : goal.returns
returns c = λ old.
    let most : length c.args.grammar.now.productions ≤ c.loop-second.second =
    omega (arith, ap length c.productions-productions.ensures.lent, c.loop-second-test.false) in
    next_row c.args.grammar.now c.args.first c.loop-second.second c.loop-second.faults.items most (c.loop-second.invariant old)
