use Rattle.passrun.proofs.Damage as damage
use Rattle.passrun.proofs.laws.one_refusal_shows.Goals as goal

pub returns : goal.returns
returns _ = damage.shows_once
