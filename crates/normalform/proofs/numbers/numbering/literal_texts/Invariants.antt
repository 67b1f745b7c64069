-- The invariant of the loop of `literal_texts`.
use Rattle.normalform.proofs.Common.{◌≡◌, take, map, List, ℕ, Bor}
use Rattle.normalform.proofs.numbers.numbering.literal_texts.Given as goal

abbrev pub invariant-loop-text : goal.invariant-loop-text
invariant-loop-text l = l.texts.items ≡ map (λ (k : Bor (List ℕ) × ℕ). k.0.now) (take l.text-index l.text-items)
