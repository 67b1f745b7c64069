use Rattle.std.proofs.Common.{rules, string_bytes}
use Rattle.std.proofs.lemmas.Result.{IfOk-at_ok}
use Rattle.grammar_commands.specs.FaultLists.{IsObjectLine}
use Rattle.grammar_commands.proofs.faults.print_refusal.Goals as goal

pub returns-clause-printed : goal.returns-clause-printed
returns-clause-printed g c =
    let line = string_bytes c.in_ok-line.line in
    let is : IsObjectLine c.args.report.now line =
    IfOk-at_ok (λ l. IsObjectLine c.args.report.now (string_bytes l)) c.in_ok-line.ensures.returned c.line_of_refusal.ensures in
    ((line, is, search rules), search rules)
