use Rattle.passassign.proofs.making.NoEarlier.{certificate_strikes}
use Rattle.passassign.proofs.laws.certificates_are_strikes.Goals as goal

pub returns : goal.returns
returns c = certificate_strikes
