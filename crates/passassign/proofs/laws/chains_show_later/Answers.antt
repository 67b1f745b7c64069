use Rattle.passassign.proofs.making.NoEarlier.{chain_shows}
use Rattle.passassign.proofs.laws.chains_show_later.Goals as goal

pub returns : goal.returns
returns c = chain_shows
