use Rattle.ag_scan.proofs.words.Tables.{AreFirst}
use Rattle.ag_scan.proofs.literals.numbered.Given as goal

abbrev pub invariant-loop-number : goal.invariant-loop-number
invariant-loop-number l = AreFirst l.literals l.entries.items l.number
