-- The invariant of the loop of `names_of`.
use Rattle.normalform.proofs.Common.{◌≡◌, take}
use Rattle.normalform.proofs.numbers.numbering.names_of.Given as goal

abbrev pub invariant-loop-text : goal.invariant-loop-text
invariant-loop-text l = l.names ≡ take l.text-index l.texts
