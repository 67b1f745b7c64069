use Rattle.std.proofs.Common.{ℕ, List, Some, string_bytes, sym, subst}
use Rattle.ag_fault.specs.declared.fault.Fault.{Fault}
use Rattle.command_line.specs.declared.input.InputPath.TheVariants as input
use Rattle.program_io.specs.Sessions.{path_of}
use Rattle.translation_commands.specs.Runs.{IsUndelivered}
use Rattle.translation_commands.proofs.batch.translate.Goals as goal

pub returns-in-Err : goal.returns-in-Err
returns-in-Err g c =
    let translator = c.args.run.translator.now in
    let work = path_of c.args.run.work in
    let from = input.File c.args.task.now.sentence in
    let failed = c.deliver.new.session in
    record {
      report = c.with_sentence-report.result;
      failed = failed;
      reason =
          subst (λ (e : Fault). IsUndelivered translator work from (Some (string_bytes c.args.task.now.output)) c.args.session.now.events failed e)
          (sym c.with_sentence-report.ensures)
          (subst (λ (w : List ℕ). IsUndelivered translator work from (Some w) c.args.session.now.events failed c.in-Err.report.fault)
          c.as_str.ensures.value c.in-Err.ensures.refused);
      reported = c.report.ensures;
      is = c.status.ensures;
    }
