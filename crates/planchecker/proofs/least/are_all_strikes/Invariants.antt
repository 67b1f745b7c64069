use Rattle.planchecker.proofs.Common.{◌+◌, AreStrikesAt, passes_of}
use Rattle.planchecker.proofs.Loops.{Prefix}
use Rattle.planchecker.proofs.least.are_all_strikes.Given as goal

abbrev pub invariant-loop-index : goal.invariant-loop-index
invariant-loop-index l = Prefix (λ i xs. AreStrikesAt l.grammar (passes_of l.assignment) (i + 1) xs) l.lists l.index
