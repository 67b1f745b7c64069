-- Edges between numbers.
use Rattle.std.specs.Prelude.{ℕ, ◌<◌, map, List, [], ◌∷◌}
use Rattle.closure.specs.Clauses.{Clauses}
use Rattle.closure.specs.declared.clause.Clause.{Clause}
use Rattle.closure.specs.declared.edges.Edge.{Edge}

-- the clause of an edge: its end follows from its start
abbrev pub clause_of_edge : Edge → Clause
clause_of_edge e = record { head = e.to; body = e.from ∷ [] }

-- the clauses of edges between the numbers below a count
abbrev pub clauses_of_edges : List Edge → ℕ → Clauses
clauses_of_edges edges count = record { clauses = map clause_of_edge edges; count = count }

-- the start and the end of an edge are below a count
pub record IsEdgeBelow (count : ℕ) (e : Edge) : Type 0 where
  pub from : e.from < count
  pub to : e.to < count
