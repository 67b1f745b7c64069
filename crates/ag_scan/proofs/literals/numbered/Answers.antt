use Rattle.std.proofs.Common.{◌≡◌, length, arith}
use Rattle.ag_scan.proofs.words.Tables.{all_first}
use Rattle.ag_scan.proofs.literals.numbered.Goals as goal

pub returns-clause-literals : goal.returns-clause-literals
returns-clause-literals c =
    let e : c.loop-number.number ≡ length c.args.literals.now = omega arith in
    all_first (rw e at c.loop-number.invariant)
