use Rattle.std.proofs.lemmas.Result.{IfOk-weaker}
use Rattle.grammar_commands.proofs.faults.line_of_refusal.Goals as goal

pub returns : goal.returns
returns c = IfOk-weaker c.object_line.result _ _ (λ line is. (c.none-details.result, is)) c.object_line.ensures
