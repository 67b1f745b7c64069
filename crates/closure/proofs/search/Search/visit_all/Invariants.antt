-- The invariant of the loop of `visit_all`.
use Rattle.std.proofs.Common.{ℕ, ◌≡◌, ◌⊎◌, get_or, Contains, take}
use Rattle.closure.specs.declared.clause.Clause.{Clause}
use Rattle.closure.specs.Search.{IsSearch, IsSettled, Grows}
use Rattle.closure.proofs.search.Search.visit_all.Given as goal

abbrev pub invariant-loop-clause : goal.invariant-loop-clause
invariant-loop-clause l = record {
  clauses : l.self.clauses.now ≡ l.initial.self.clauses.now;
  seeds : l.self.seeds.now ≡ l.initial.self.seeds.now;
  search : IsSearch l.self.clauses.now l.self.seeds.now l.self.marks.items l.self.added.items l.self.visited l.self.passed.items;
  visited : l.self.visited ≡ l.initial.self.visited;
  grows : Grows l.initial.self.visited l.initial.self.marks.items l.initial.self.added.items l.self.marks.items
      l.self.added.items;
  settles : (p : ℕ) (d : Clause)
      → IsSettled l.initial.self.marks.items l.initial.self.added.items l.initial.self.visited
      (get_or l.initial.self.clauses.now p d) ⊎ Contains (take l.clause-index l.waiting) p
      → IsSettled l.self.marks.items l.self.added.items l.initial.self.visited (get_or l.initial.self.clauses.now p d);
}
