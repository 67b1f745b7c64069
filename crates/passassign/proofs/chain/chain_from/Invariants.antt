use Rattle.passassign.proofs.Common.{ℕ, ◌≡◌, ◌<◌, ◌++◌, List, ◌∷◌, Some, slice_get, length, Has, Strike, AreLinked, strike_at}
use Rattle.passassign.proofs.chain.chain_from.Given as goal

abbrev pub invariant-loop-before : goal.invariant-loop-before
invariant-loop-before l = record {
  within : l.end < length l.strikes;
  first : slice_get l.links.items 0 ≡ slice_get l.strikes l.at;
  among : (i : ℕ) (x : Strike) → slice_get l.links.items i ≡ Some x → Has l.strikes x;
  linked : (ys : List Strike) → AreLinked l.grammar l.direction (strike_at l.strikes l.end ∷ ys)
      → AreLinked l.grammar l.direction (l.links.items ++ ys);
}

abbrev pub decreases-loop-before : goal.decreases-loop-before
decreases-loop-before l = l.end
