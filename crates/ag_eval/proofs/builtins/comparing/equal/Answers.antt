use Rattle.ag_eval.proofs.Common.{ap, ◌∙◌, truth, decided}
use Rattle.ag_eval.proofs.builtins.comparing.equal.Goals as goal

pub returns-clause-value : goal.returns-clause-value
returns-clause-value c =
    c.truth.ensures.value ∙ ap truth (decided _ _ c.same.result c.requires.left c.requires.right c.same.ensures)
