use Rattle.planchecker.proofs.Common.{◌<◌, IsMarked}
use Rattle.planchecker.proofs.Loops.{Prefix}
use Rattle.planchecker.proofs.least.is_row_struck.Given as goal

abbrev pub invariant-loop-attr : goal.invariant-loop-attr
invariant-loop-attr l = Prefix (λ a p. l.pass < p → IsMarked l.struck l.symbol a) l.row l.attr
