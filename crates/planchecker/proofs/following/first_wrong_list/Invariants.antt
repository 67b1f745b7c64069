use Rattle.planchecker.proofs.Common.{◌+◌, passes_of, ListAgrees, row_of}
use Rattle.planchecker.proofs.Loops.{Prefix}
use Rattle.planchecker.proofs.following.first_wrong_list.Given as goal

abbrev pub invariant-loop-index : goal.invariant-loop-index
invariant-loop-index l = Prefix (λ i xs. ListAgrees (passes_of l.assignment) l.production (i + 1) xs) (row_of l.lists) l.index
