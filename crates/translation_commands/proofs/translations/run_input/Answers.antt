use Rattle.std.proofs.Common.{ℕ, List, inr, subst}
use Rattle.std.proofs.lemmas.Result.{IfErr-weaker}
use Rattle.ag_job.specs.Jobs.{IsJob}
use Rattle.program_io.specs.Sessions.{State}
use Rattle.translation_commands.specs.Runs.{IsUndeliveredJob}
use Rattle.translation_commands.proofs.translations.run_input.Goals as goal

pub returns-in-Ok-clause-refused : goal.returns-in-Ok-clause-refused
returns-in-Ok-clause-refused g c =
    let texts = c.in-Ok.job in
    let new = c.translate_job.new.session in
    IfErr-weaker c.translate_job.result _ _ (λ report is. inr (inr (record {
      bytes = c.in_ok-bytes.bytes.items;
      texts = texts;
      is = subst (λ (w : List ℕ). IsJob w texts.grammar texts.sentence) c.as_slice.ensures.value c.in-Ok.ensures.job;
      holds = subst (λ (s : State). IsUndeliveredJob texts s.events new report.fault) c.in_ok-bytes.ensures.read is;
    }))) c.translate_job.ensures.refused
