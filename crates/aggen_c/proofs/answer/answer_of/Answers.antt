use Rattle.std.proofs.Common.{◌∙◌}
use Rattle.aggen_c.proofs.answer.answer_of.Goals as goal

pub returns-in-Err-clause-refused : goal.returns-in-Err-clause-refused
returns-in-Err-clause-refused c =
    record {
      reason = c.in-Err.fault;
      is_true = c.in-Err.ensures.refused;
      same = c.with_report.ensures ∙ c.of_fault-refusal.ensures;
    }
