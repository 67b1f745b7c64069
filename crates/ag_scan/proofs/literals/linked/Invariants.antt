use Rattle.std.proofs.Common.{◌≡◌, length}
use Rattle.ag_scan.specs.Table.{AreLinked}
use Rattle.ag_scan.proofs.literals.linked.Given as goal

abbrev pub invariant-loop-index : goal.invariant-loop-index
invariant-loop-index l = (length l.shorter.items ≡ l.index) × AreLinked l.entries l.shorter.items
