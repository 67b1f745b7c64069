use Rattle.llparse.proofs.Common.{drop, refl}
use Rattle.llparse.proofs.steps.Shown.{whole}
use Rattle.llparse.proofs.laws.left_trees_are_beyond_the_limit.Goals as goal

pub returns : goal.returns
returns c g words size begun limit t left is = left.only (drop left.index words) t refl (whole g words left.index t is)
