use Rattle.std.proofs.Common.{ap, ◌∙◌}
use Rattle.ag_scan.specs.TokenReader.{TokenReader, offset_at}
use Rattle.ag_scan.proofs.tokens.Tokens.at.Goals as goal

pub returns : goal.returns
returns c = c.self.invariant.offset ∙ ap (λ (h : TokenReader). offset_at h.list h.taken) c.self.view_is
