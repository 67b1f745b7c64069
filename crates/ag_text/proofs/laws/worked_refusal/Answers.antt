use Rattle.ag_text.proofs.Examples.{no_start_is_none}
use Rattle.ag_text.proofs.laws.worked_refusal.Goals as goal

pub returns : goal.returns
returns c raw is = no_start_is_none raw is
