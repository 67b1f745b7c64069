use Rattle.pass_rows.proofs.Common.{arith}
use Rattle.std.proofs.lemmas.Bool.{eqb-true}
use Rattle.pass_rows.proofs.Recorded.{empty_is, more_taken, none_taken, occur_on}
use Rattle.pass_rows.proofs.reading.lent.take_row.Goals as goal

pub loop-pass-preserved : goal.loop-pass-preserved
loop-pass-preserved c =
    let one = rw c.in-Some.is at c.in_ok-after.ensures.taken in
    record {
      taken =
          λ new more. c.loop-pass.invariant.taken new
          (more_taken c.args.passes.now c.loop-pass.pass-index c.loop-pass-test.true one more);
      prefix = occur_on c.args.values.now.items one c.loop-pass.invariant.prefix;
    }

pub returns-clause-taken : goal.returns-clause-taken
returns-clause-taken c = λ empty.
    c.loop-pass.invariant.taken c.loop-pass.values.items
    (none_taken c.args.passes.now c.loop-pass.pass-index c.loop-pass-test.false
    (empty_is c.loop-pass.rest (omega (arith, c.len.ensures, eqb-true c.len.result 0 empty))))
