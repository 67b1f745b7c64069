use Rattle.aggen.proofs.Common.{sym}
use Rattle.aggen.proofs.translator.Translator.plan.Goals as goal

pub returns : goal.returns
returns c = rw (sym c.self.view_is) c.self.invariant.2
