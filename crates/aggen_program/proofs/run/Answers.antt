use Rattle.std.proofs.Common.{inr}
use Rattle.aggen_program.proofs.run.Goals as goal

pub returns-in-Err : goal.returns-in-Err
returns-in-Err g c = inr (record {
  report = c.in-Err.report;
  failed = c.perform.new.session;
  reason = c.in-Err.ensures.refused;
  reported = c.fail.ensures.reported;
  is = c.fail.ensures.status;
})
