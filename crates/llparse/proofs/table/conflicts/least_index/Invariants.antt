use Rattle.llparse.proofs.Common.{ℕ, ◌≡◌, ◌<◌, false, [], get_or, rows}
use Rattle.llparse.specs.table.Conflicts.{has_both}
use Rattle.llparse.proofs.table.conflicts.least_index.Given as goal

abbrev pub invariant-loop-index : goal.invariant-loop-index
invariant-loop-index l = (k : ℕ) → k < l.index → has_both (get_or (rows l.lists) k []) l.first l.second ≡ false
