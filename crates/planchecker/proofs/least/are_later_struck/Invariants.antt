use Rattle.planchecker.proofs.Common.{ℕ, List, ◌<◌, IsMarked, numbers_of, EachAt}
use Rattle.planchecker.proofs.Loops.{Prefix}
use Rattle.planchecker.proofs.least.are_later_struck.Given as goal

abbrev pub invariant-loop-symbol : goal.invariant-loop-symbol
invariant-loop-symbol l = Prefix (λ s (row : List ℕ). EachAt (λ a p. l.pass < p → IsMarked l.struck s a) row) (numbers_of l.rows)
    l.symbol
