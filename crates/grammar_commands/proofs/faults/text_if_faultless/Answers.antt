use Rattle.std.proofs.lemmas.Result.{IfErr-weaker}
use Rattle.grammar_commands.proofs.NoLines.{not_listed}
use Rattle.grammar_commands.proofs.faults.text_if_faultless.Goals as goal

pub returns-clause-other : goal.returns-clause-other
returns-clause-other c =
    IfErr-weaker c.text_of_part.result _ _ (λ e is. not_listed c.args.part c.args.text.now e c.requires.none is)
    c.text_of_part.ensures.refused
