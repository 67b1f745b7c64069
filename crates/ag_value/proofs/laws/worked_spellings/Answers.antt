use Rattle.ag_value.specs.declared.value.ErrorCode.TheVariants as code
use Rattle.ag_value.proofs.Layers.{spelling-Fault}
use Rattle.ag_value.proofs.laws.worked_spellings.Goals as goal

pub returns-clause-error : goal.returns-clause-error
returns-clause-error c = spelling-Fault code.Divide
