use Rattle.std.proofs.lemmas.Result.{IfOk-weaker}
use Rattle.grammar_commands.proofs.faults.line_of_fault.Goals as goal

pub returns : goal.returns
returns c =
    IfOk-weaker c.object_line.result _ _ (λ line is.
    (c.of_read_grammar-report.result, c.of_read_grammar-report.ensures, (c.in_ok-details.details, is))) c.object_line.ensures
