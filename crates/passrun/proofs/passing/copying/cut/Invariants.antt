use Rattle.passrun.proofs.Common.{◌≡◌, take, vec_len}
use Rattle.passrun.proofs.passing.copying.cut.Given as goal

abbrev pub invariant-loop-values : goal.invariant-loop-values
invariant-loop-values l = take l.from l.values.items ≡ take l.from l.fn.values.items

abbrev pub decreases-loop-values : goal.decreases-loop-values
decreases-loop-values l = vec_len l.values
