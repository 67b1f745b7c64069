-- The invariant of the loop of `uses`.
use Rattle.std.proofs.Common.{ℕ, ◌≡◌, ◌<◌, All, Contains, length, get_or, []}
use Rattle.std.specs.Global.{Vec}
use Rattle.closure.specs.declared.clause.Clause.{Clause}
use Rattle.closure.specs.Waiting.{row, rows}
use Rattle.closure.proofs.waiting.uses.Given as goal

abbrev pub invariant-loop : goal.invariant-loop
invariant-loop l = record {
  count : length l.uses.items ≡ l.counter;
  empty : All (λ (v : Vec ℕ). v.items ≡ []) l.uses.items;
}

abbrev pub invariant-loop-at : goal.invariant-loop-at
invariant-loop-at l = record {
  count : length l.uses.items ≡ l.count;
  listed : (p t : ℕ) (d : Clause) → p < l.at → Contains (get_or l.clauses p d).body t → Contains (row (rows l.uses.items) t) p;
  fits : (t : ℕ) → All (λ p. p < length l.clauses) (row (rows l.uses.items) t);
}
