use Rattle.ag_scan.specs.Table.{AreCovered}
use Rattle.ag_scan.proofs.starts.starts_of.Given as goal

abbrev pub invariant-loop-index : goal.invariant-loop-index
invariant-loop-index l = AreCovered l.entries l.starts.items l.index
