use Rattle.aggen.proofs.Exits.{at_exit}
use Rattle.aggen.proofs.Old.{old_fault}
use Rattle.aggen.proofs.translator.Translator.upgrade.Goals as goal

-- the meaning of the fault for the old content
pub returns-in_err-nodes-clause-refused : goal.returns-in_err-nodes-clause-refused
returns-in_err-nodes-clause-refused g c =
    at_exit _ _ _ c.from_residual.ensures
    (old_fault _ _ _ _ c.in_err-nodes.field-0.0 (rw c.grammar.ensures.grammar at c.in_err-nodes.ensures.refused))
