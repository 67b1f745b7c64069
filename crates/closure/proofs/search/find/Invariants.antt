-- The invariant of the loop of `find`.
use Rattle.std.proofs.Common.{ℕ, ◌≡◌, ◌<◌, ◌-◌, Contains, true, length, get_or}
use Rattle.closure.specs.declared.clause.Clause.{Clause}
use Rattle.closure.specs.Following.{is_marked}
use Rattle.closure.specs.Search.{IsSearch, IsSettled}
use Rattle.closure.proofs.search.find.Given as goal

abbrev pub invariant-loop-search : goal.invariant-loop-search
invariant-loop-search l = record {
  clauses : l.search.clauses.now ≡ l.fn.clauses;
  seeds : l.search.seeds.now ≡ l.fn.seeds;
  count : length l.search.marks.items ≡ length l.fn.uses;
  search : IsSearch l.search.clauses.now l.search.seeds.now l.search.marks.items l.search.added.items l.search.visited
      l.search.passed.items;
  settled : (p : ℕ) (d : Clause) → p < length l.fn.clauses
      → IsSettled l.search.marks.items l.search.added.items l.search.visited (get_or l.fn.clauses p d);
  seeded : (t : ℕ) → Contains l.fn.seeds t → is_marked l.search.marks.items t ≡ true;
}

abbrev pub decreases-loop-search : goal.decreases-loop-search
decreases-loop-search l = length l.search.marks.items - l.search.visited
