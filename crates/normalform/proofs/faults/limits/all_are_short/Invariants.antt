-- The invariant of the loop of `all_are_short`.
use Rattle.normalform.proofs.Common.{◌≡◌, drop, map, List, ℕ, Bor, list_all, is_short}
use Rattle.normalform.proofs.faults.limits.all_are_short.Given as goal

abbrev pub invariant-loop-text : goal.invariant-loop-text
invariant-loop-text l =
    list_all is_short (map (λ (k : Bor (List ℕ) × ℕ). k.0.now) (drop l.text-index l.text-items)) ≡ list_all is_short l.texts
