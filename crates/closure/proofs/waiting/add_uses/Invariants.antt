-- The invariant of the loop of `add_uses`.
use Rattle.std.proofs.Common.{ℕ, Contains, take}
use Rattle.closure.specs.Waiting.{AddsClause, row, rows}
use Rattle.closure.proofs.waiting.add_uses.Given as goal

abbrev pub invariant-loop-number : goal.invariant-loop-number
invariant-loop-number l = record {
  adds : AddsClause l.clause (rows l.initial.uses.items) (rows l.uses.items);
  listed : (t : ℕ) → Contains (take l.number-index l.body) t → Contains (row (rows l.uses.items) t) l.clause;
}
