-- Examples of clauses and edges.
use Rattle.std.specs.Prelude.{List, [], ◌∷◌}
use Rattle.closure.specs.declared.clause.Clause.{Clause}
use Rattle.closure.specs.declared.edges.Edge.{Edge}

-- four clauses: 0 follows; 1 does if 0 does (the body of this clause has 0 twice); 2 does if 1 and 3 do; and 3 does if 2 does
abbrev pub sample : List Clause
sample =
    record { head = 0; body = [] }
    ∷ record { head = 1; body = 0 ∷ 0 ∷ [] }
    ∷ record { head = 2; body = 1 ∷ 3 ∷ [] }
    ∷ record { head = 3; body = 2 ∷ [] }
    ∷ []

-- an edge from 0 to 1 and one from 1 to 2
abbrev pub two_edges : List Edge
two_edges = record { from = 0; to = 1 } ∷ record { from = 1; to = 2 } ∷ []
