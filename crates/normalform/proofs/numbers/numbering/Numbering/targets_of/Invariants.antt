-- The invariant of the loop of `Numbering::targets_of`.
use Rattle.normalform.proofs.Common.{◌≡◌, take, map, target_of, item_placed}
use Rattle.normalform.proofs.numbers.numbering.Numbering.targets_of.Given as goal

abbrev pub invariant-loop-occurrence : goal.invariant-loop-occurrence
invariant-loop-occurrence l =
    l.targets.items ≡ map (target_of l.self.declared (map item_placed l.items)) (take l.occurrence-index l.occurrences)
