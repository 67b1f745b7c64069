use Rattle.pass_rows.proofs.Common.{◌-◌, arith, on_ok_weaker}
use Rattle.pass_rows.proofs.Recorded.{more_taken, no_row_left, none_taken, occur_on, others_no_row}
use Rattle.pass_rows.proofs.reading.record.take_row.Goals as goal

pub loop-index-preserved : goal.loop-index-preserved
loop-index-preserved c =
    let ps = c.args.passes.now in
    let i = c.loop-index.index in
    let one = c.in-Some.ensures.taken in
    record {
      taken = λ new more. c.loop-index.invariant.taken new (more_taken ps i c.loop-index-test.true one more);
      none = λ none. c.loop-index.invariant.none (others_no_row ps i c.loop-index-test.true one none);
      prefix = occur_on c.args.values.now.items one c.loop-index.invariant.prefix;
      room = omega (arith, c.loop-index.invariant.room, c.take_number.ensures.len, c.take_number.ensures.capacity);
    }

pub returns-clause-none : goal.returns-clause-none
returns-clause-none c = λ damaged.
    c.loop-index.invariant.none
    (no_row_left (c.args.row.pass - 1) c.args.passes.now c.loop-index.index c.loop-index.rest.now c.loop-index-test.false
    (c.check_end.ensures.left damaged))

pub returns-clause-taken : goal.returns-clause-taken
returns-clause-taken c =
    on_ok_weaker c.check_end.result
    (λ none. c.loop-index.invariant.taken c.loop-index.values.items
    (none_taken c.args.passes.now c.loop-index.index c.loop-index-test.false none)) c.check_end.ensures.end
