-- The invariant of the loop of `facts`.
use Rattle.std.proofs.Common.{ℕ, ◌≡◌, ◌<◌, All, Contains, [], length, get_or}
use Rattle.closure.specs.declared.clause.Clause.{Clause}
use Rattle.closure.proofs.waiting.facts.Given as goal

abbrev pub invariant-loop-at : goal.invariant-loop-at
invariant-loop-at l = record {
  listed : (p : ℕ) (d : Clause) → p < l.at → (get_or l.clauses p d).body ≡ [] → Contains l.facts.items p;
  fits : All (λ p. p < length l.clauses) l.facts.items;
}
