use Rattle.backreader.proofs.turnings.OneTurning.{tree_exact}
use Rattle.backreader.proofs.laws.trees_are_reversed.Goals as goal

pub returns : goal.returns
returns c arity pass content honest turned result direction tree is so =
    tree_exact arity pass content honest turned direction tree is result so
