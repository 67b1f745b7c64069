use Rattle.planchecker.proofs.Common.{ℕ, ◌≡◌, ◌↔◌, length, take, IsMarked, IsNext}
use Rattle.passassign.specs.Certificate.{IsStruckBy}
use Rattle.passassign.specs.Tables.{max_slots}
use Rattle.planchecker.proofs.Loops.{Prefix}
use Rattle.planchecker.proofs.striking.marks_of.Given as goal

abbrev pub invariant-loop-strike : goal.invariant-loop-strike
invariant-loop-strike g l = record {
  good : Prefix (λ i x. IsNext l.grammar (g.C.Candidates.direction l.candidates) (g.C.Candidates.candidates l.candidates)
      (g.C.Candidates.later l.candidates) (take i l.strikes) x) l.strikes l.strike-index;
  full : length l.struck.slots ≡ max_slots;
  marked : (s a : ℕ) → IsMarked l.struck s a ↔ IsStruckBy (take l.strike-index l.strikes) s a;
}
