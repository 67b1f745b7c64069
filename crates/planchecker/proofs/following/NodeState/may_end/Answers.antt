use Rattle.planchecker.proofs.Common.{sym, ◌∙◌}
use Rattle.planchecker.proofs.following.NodeState.may_end.Goals as goal

pub returns-then-self : goal.returns-then-self
returns-then-self c = (
  (λ t. (
    sym c.requires.phase ∙ c.in-Between.is,
    sym c.requires.turn ∙ c.if-self.true ∙ c.requires.children,
    c.are_all_done.ensures.0 t,
  )),
  λ h. c.are_all_done.ensures.1 h.2,
)
