use Rattle.llparse.proofs.Common.{◌≡◌, true, length, is_known}
use Rattle.std.specs.Prelude.{All}
use Rattle.llparse.proofs.sentence.expected.expected_after.Given as goal

abbrev pub invariant-loop-index : goal.invariant-loop-index
invariant-loop-index l = All (λ ahead. is_known (length l.language.grammar.now.literals) ahead ≡ true) l.expected.items
