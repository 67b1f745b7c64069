-- The invariant of the loop of `targets_of`.
use Rattle.normalform.proofs.Common.{◌≡◌, drop, fold, targets_of, with_reference}
use Rattle.normalform.proofs.faults.rules.targets_of.Given as goal

abbrev pub invariant-loop-reference : goal.invariant-loop-reference
invariant-loop-reference l = fold with_reference l.targets (drop l.reference-index l.references) ≡ targets_of l.references
