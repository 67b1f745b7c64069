-- The numbers that follow along edges are those that are reached by them.
use Rattle.std.proofs.Common.{ℕ, ◌<◌, List, [], map, get_or, All, Contains, subst}
use Rattle.std.proofs.lemmas.List.Elements.{All-head, All-map, All-nil, All-cons}
use Rattle.closure.specs.Clauses.{IsClauseBelow}
use Rattle.closure.specs.Edges.{clause_of_edge, IsEdgeBelow}
use Rattle.closure.specs.Following.{Follows}
use Rattle.closure.specs.declared.clause.Clause.{Clause}
use Rattle.closure.specs.declared.edges.Edge.{Edge}
use Rattle.closure.proofs.Following.{follows_in, head_follows}
use Rattle.closure.proofs.Positions.{at_mapped, element_at, mapped_at, position_of_element}

-- the end of an edge is reached if its start is
pub step : (edges : List Edge) (seeds : List ℕ) (e : Edge) → Contains edges e → Follows (map clause_of_edge edges) seeds e.from
    → Follows (map clause_of_edge edges) seeds e.to
step edges seeds e h from = let w = position_of_element edges e h in
    head_follows (map clause_of_edge edges) seeds w.0 (clause_of_edge e) (at_mapped clause_of_edge edges w.0 e w.1)
    (All-cons (Follows (map clause_of_edge edges) seeds) e.from [] from (All-nil (Follows (map clause_of_edge edges) seeds)))

-- Induction: let the seeds have a property, and the end of each edge whose start has it. Then all numbers that are
-- reached have it.
pub reached_in : (edges : List Edge) (seeds : List ℕ) (P : ℕ → Type 0) → ((t : ℕ) → Contains seeds t → P t)
    → ((e : Edge) → Contains edges e → P e.from → P e.to) → (s : ℕ) → Follows (map clause_of_edge edges) seeds s → P s
reached_in edges seeds P start goes = follows_in (map clause_of_edge edges) seeds P start (λ p c h all.
    let w = mapped_at clause_of_edge edges p c h in
    subst (λ (q : Clause). P q.head) w.2 (goes w.0 (element_at edges p w.0 w.1) (All-head P w.0.from [] (rw (← w.2) at all))))

-- the clauses of edges between numbers below a count have numbers below that count
pub below : (count : ℕ) (edges : List Edge) → All (IsEdgeBelow count) edges → All (IsClauseBelow count) (map clause_of_edge edges)
below count edges all =
    All-map (IsClauseBelow count) clause_of_edge edges
    (λ k d lt. let e = all k d lt in
    record { head = e.to; body = All-cons (λ t. t < count) (get_or edges k d).from [] e.from (All-nil (λ t. t < count)) })
