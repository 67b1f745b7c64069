use Rattle.ag_eval.proofs.Common.{ap, ◌∙◌, truth, decided}
use Rattle.ag_eval.proofs.builtins.comparing.equal_shared.Goals as goal

pub returns-clause-value : goal.returns-clause-value
returns-clause-value c =
    c.truth.ensures.value ∙ ap truth (decided _ _ c.in_ok-same.same c.requires.left c.requires.right c.in_ok-same.ensures)
