use Rattle.llparse.proofs.Common.{◌≡◌, ◌≤◌, ◌+◌, ap, arith, length}
use Rattle.llparse.proofs.look_ahead.Conflicts.{all_conflicts, no_conflicts}
use Rattle.llparse.proofs.table.conflicts.conflicts.Goals as goal

pub loop-first-init : goal.loop-first-init
loop-first-init c = rw c.new-faults.ensures.items (no_conflicts c.args.grammar.now)

pub loop-first-preserved : goal.loop-first-preserved
loop-first-preserved c =
    let next : c.loop-first.first + 2 ≡ c.loop-first.first + 1 + 1 = omega arith in
    rw next at (c.in_ok-add_conflicts.ensures c.loop-first.invariant)

pub returns : goal.returns
returns c =
    let most : length c.args.grammar.now.productions ≤ c.loop-first.first =
    omega (arith, ap length c.productions-productions.ensures.lent, c.loop-first-test.false) in
    all_conflicts c.args.grammar.now c.loop-first.first (c.loop-first.first + 1) c.loop-first.faults.items most
    c.loop-first.invariant
