use Rattle.pass_rows.proofs.Common.{◌-◌, on_ok_weaker}
use Rattle.pass_rows.proofs.Recorded.{more_taken, no_row_left, none_taken, occur_on, others_no_row}
use Rattle.pass_rows.proofs.reading.record.take_values.Goals as goal

pub loop-pass-preserved : goal.loop-pass-preserved
loop-pass-preserved c =
    let ps = c.args.passes.now in
    let i = c.loop-pass.pass-index in
    let one = c.in_ok-rest.ensures.taken in
    record {
      taken = λ new more. c.loop-pass.invariant.taken new (more_taken ps i c.loop-pass-test.true one more);
      none = λ none. c.loop-pass.invariant.none (others_no_row ps i c.loop-pass-test.true one none);
      prefix = occur_on c.args.values.now.items one c.loop-pass.invariant.prefix;
    }

pub returns-clause-none : goal.returns-clause-none
returns-clause-none c = λ damaged.
    c.loop-pass.invariant.none
    (no_row_left (c.args.row.pass - 1) c.args.passes.now c.loop-pass.pass-index c.loop-pass.rest.now c.loop-pass-test.false
    (c.check_end.ensures.left damaged))

pub returns-clause-taken : goal.returns-clause-taken
returns-clause-taken c =
    on_ok_weaker c.check_end.result
    (λ none. c.loop-pass.invariant.taken c.loop-pass.values.items
    (none_taken c.args.passes.now c.loop-pass.pass-index c.loop-pass-test.false none)) c.check_end.ensures.end
