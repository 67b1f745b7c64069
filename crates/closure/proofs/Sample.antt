-- The examples of clauses and edges.
use Rattle.std.proofs.Common.{Contains, map, ℕ, zero, suc, ◌≡◌, ◌<◌, List, [], ◌∷◌, All, Some, slice_get, refl, arith}
use Rattle.std.proofs.lemmas.List.Elements.{All-cons, All-contains, All-head, All-nil, All-tail, Contains-get_or}
use Rattle.closure.specs.declared.clause.Clause.{Clause}
use Rattle.closure.specs.Following.{Follows, seed, by_clause, nothing, one_more}
use Rattle.closure.specs.Edges.{clause_of_edge}
use Rattle.closure.specs.Samples.{sample, two_edges}
use Rattle.closure.specs.declared.edges.Edge.{Edge}
use Rattle.closure.proofs.Positions.{element_at}
use Rattle.closure.proofs.Reached.{reached_in, step}
use Rattle.closure.proofs.Following.{follows_in}

zero_follows : (seeds : List ℕ) → Follows sample seeds 0
zero_follows seeds = by_clause 0 (record { head = 0; body = [] }) refl refl nothing

one_follows : (seeds : List ℕ) → Follows sample seeds 1
one_follows seeds =
    by_clause 1 (record { head = 1; body = 0 ∷ 0 ∷ [] }) refl refl
    (one_more (zero_follows seeds) (one_more (zero_follows seeds) nothing))

-- the numbers below 2 are closed under the clauses
closed : (p : ℕ) (c : Clause) → slice_get sample p ≡ Some c → All (λ t. t < 2) c.body → c.head < 2
closed zero c e all = let same : record { head = 0; body = [] } ≡ c = cc in rw (← same) (omega arith)
closed (suc zero) c e all = let same : record { head = 1; body = 0 ∷ 0 ∷ [] } ≡ c = cc in rw (← same) (omega arith)
closed (suc (suc zero)) c e all =
    let same : record { head = 2; body = 1 ∷ 3 ∷ [] } ≡ c = cc in
    let bad = All-head (λ t. t < 2) 3 [] (All-tail (λ t. t < 2) 1 (3 ∷ []) (rw (← same) at all)) in absurd (omega arith)
closed (suc (suc (suc zero))) c e all =
    let same : record { head = 3; body = 2 ∷ [] } ≡ c = cc in
    let bad = All-head (λ t. t < 2) 2 [] (rw (← same) at all) in absurd (omega arith)
closed (suc (suc (suc (suc p)))) c e all = absurd (cc)

pub without_seeds : Follows sample [] 1 × (Follows sample [] 2 → ⊥)
without_seeds = (
  one_follows [],
  λ h. let low = follows_in sample [] (λ t. t < 2) (λ t none. absurd (omega (arith, none.1))) closed 2 h in
      absurd (omega arith),
)

pub with_seed : Follows sample (3 ∷ []) 2
with_seed =
    by_clause 2 (record { head = 2; body = 1 ∷ 3 ∷ [] }) refl refl
    (one_more (one_follows (3 ∷ [])) (one_more (seed (Contains-get_or (3 ∷ []) 0 0 (omega arith))) nothing))

-- the end of each edge is below 3
ends : (e : Edge) → Contains two_edges e → e.to < 3
ends e h =
    All-contains (λ (d : Edge). d.to < 3) two_edges e
    (All-cons (λ (d : Edge). d.to < 3) (record { from = 0; to = 1 }) (record { from = 1; to = 2 } ∷ []) (omega arith)
    (All-cons (λ (d : Edge). d.to < 3) (record { from = 1; to = 2 }) [] (omega arith) (All-nil (λ (d : Edge). d.to < 3))))
    h

pub two_is_reached : Follows (map clause_of_edge two_edges) (0 ∷ []) 2
two_is_reached =
    let one =
    step two_edges (0 ∷ []) (record { from = 0; to = 1 }) (element_at two_edges 0 _ refl)
    (seed (element_at (0 ∷ []) 0 0 refl)) in
    step two_edges (0 ∷ []) (record { from = 1; to = 2 }) (element_at two_edges 1 _ refl) one

pub three_is_not : Follows (map clause_of_edge two_edges) (0 ∷ []) 3 → ⊥
three_is_not h =
    let low =
    reached_in two_edges (0 ∷ []) (λ t. t < 3)
    (λ t k. All-contains (λ u. u < 3) (0 ∷ []) t (All-cons (λ u. u < 3) 0 [] (omega arith) (All-nil (λ u. u < 3))) k)
    (λ e k before. ends e k) 3 h in
    absurd (omega arith)
