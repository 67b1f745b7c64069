-- The numbers that follow from clauses and seeds (Dowling and Gallier 1984). Each seed follows. The head of a clause follows if
-- each number of its body does (`FollowAll`). No smaller set contains the seeds and is closed under the clauses.
use Rattle.std.specs.Prelude.{ℕ, ◌≡◌, ◌↔◌, Bool, true, false, List, [], ◌∷◌, Some, slice_get, slice_index_or, Contains}
use Rattle.closure.specs.declared.clause.Clause.{Clause}

mutual
  pub data Follows (clauses : List Clause) (seeds : List ℕ) : ℕ → Type 0 where
    seed : {s : ℕ} → Contains seeds s → Follows clauses seeds s
    by_clause : (p : ℕ) (q : Clause) {s : ℕ} → slice_get clauses p ≡ Some q → q.head ≡ s → FollowAll clauses seeds q.body
        → Follows clauses seeds s

  pub data FollowAll (clauses : List Clause) (seeds : List ℕ) : List ℕ → Type 0 where
    nothing : FollowAll clauses seeds []
    one_more : {s : ℕ} {xs : List ℕ} → Follows clauses seeds s → FollowAll clauses seeds xs → FollowAll clauses seeds (s ∷ xs)

-- a test: the number n is marked (a number beyond the end of the list is not)
abbrev pub is_marked : List Bool → ℕ → Bool
is_marked marks n = slice_index_or marks n false

-- the marks are those of the numbers that follow
abbrev pub AreClosure : List Clause → List ℕ → List Bool → Type 0
AreClosure clauses seeds marks = (s : ℕ) → is_marked marks s ≡ true ↔ Follows clauses seeds s
