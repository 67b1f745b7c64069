use Rattle.causes.proofs.Found.{cause_is_found}
use Rattle.causes.proofs.InTree.{found_is_cause}
use Rattle.causes.proofs.laws.causes_are_found.Goals as goal

pub returns-clause-cause : goal.returns-clause-cause
returns-clause-cause c = found_is_cause

pub returns-clause-found : goal.returns-clause-found
returns-clause-found c = cause_is_found
