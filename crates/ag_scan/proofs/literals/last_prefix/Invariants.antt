use Rattle.std.proofs.Common.{◌≤◌}
use Rattle.ag_scan.specs.Table.{NoPrefix}
use Rattle.ag_scan.proofs.literals.last_prefix.Given as goal

abbrev pub invariant-loop-limit : goal.invariant-loop-limit
invariant-loop-limit l = (l.limit ≤ l.bound) × NoPrefix l.entries l.limit l.bound l.text

abbrev pub decreases-loop-limit : goal.decreases-loop-limit
decreases-loop-limit l = l.limit
