-- The invariant of the loop of `mark_seeds`.
use Rattle.std.proofs.Common.{ℕ, ◌≡◌, Contains, true, take}
use Rattle.closure.specs.Following.{is_marked}
use Rattle.closure.specs.Search.{IsSearch, Grows}
use Rattle.closure.proofs.search.Search.mark_seeds.Given as goal

abbrev pub invariant-loop-index : goal.invariant-loop-index
invariant-loop-index l = record {
  clauses : l.self.clauses.now ≡ l.initial.self.clauses.now;
  seeds : l.self.seeds.now ≡ l.initial.self.seeds.now;
  search : IsSearch l.self.clauses.now l.self.seeds.now l.self.marks.items l.self.added.items l.self.visited l.self.passed.items;
  visited : l.self.visited ≡ l.initial.self.visited;
  grows : Grows l.initial.self.visited l.initial.self.marks.items l.initial.self.added.items l.self.marks.items
      l.self.added.items;
  marked : (t : ℕ) → Contains (take l.index l.initial.self.seeds.now) t → is_marked l.self.marks.items t ≡ true;
}
