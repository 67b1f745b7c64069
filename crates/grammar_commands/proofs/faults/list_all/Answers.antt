use Rattle.std.proofs.Common.{inr}
use Rattle.std.proofs.lemmas.Result.{IfErr-weaker, IfOk-weaker}
use Rattle.grammar_commands.proofs.faults.list_all.Goals as goal

pub returns-in-Err-clause-listed : goal.returns-in-Err-clause-listed
returns-in-Err-clause-listed g c = IfOk-weaker c.print_refusal.result _ _ (λ code is. inr (record {
  report = c.in-Err.report;
  failed = c.list_faults.new.session;
  asked = c.if-words.true;
  reason = c.in-Err.ensures.refused;
  printed = is.0;
  is = is.1;
})) c.print_refusal.ensures.printed

pub returns-in-Err-clause-refused : goal.returns-in-Err-clause-refused
returns-in-Err-clause-refused g c = IfErr-weaker c.print_refusal.result _ _ (λ e is. inr (record {
  asked = c.if-words.true;
  first = c.in-Err.report.fault;
  failed = c.list_faults.new.session.events;
  reason = c.in-Err.ensures.refused;
  untold = is.1;
  is = is.0;
})) c.print_refusal.ensures.refused
