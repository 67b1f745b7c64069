-- For each number, its row: the indices of the clauses that wait for the number, which are those whose bodies contain it.
use Rattle.std.specs.Prelude.{ℕ, map, ◌≡◌, ◌<◌, List, [], length, slice_index_or, All, Contains}
use Rattle.std.specs.Global.{Vec}
use Rattle.closure.specs.Clauses.{IsClauseBelow}
use Rattle.closure.specs.declared.clause.Clause.{Clause}

-- the rows of a table as lists
abbrev pub rows : {A : Type 0} → List (Vec A) → List (List A)
rows table = map (λ v. v.items) table

-- the row of a number
abbrev pub row : List (List ℕ) → ℕ → List ℕ
row table t = slice_index_or table t []

-- The tables `old` and `new` have the same number of rows, and each row of `new` has all entries of this row in `old`. If the
-- clause's index and all entries of `old` are below a number n, so are all entries of `new`. This doesn't say which are new.
pub record AddsClause (clause : ℕ) (old new : List (List ℕ)) : Type 0 where
  pub same : length new ≡ length old
  pub kept : (t p : ℕ) → Contains (row old t) p → Contains (row new t) p
  pub fits : (n : ℕ) → clause < n → ((t : ℕ) → All (λ p. p < n) (row old t)) → (t : ℕ) → All (λ p. p < n) (row new t)

-- Each number that occurs in a clause has a row in `uses`. A number's row contains the indices of the clauses whose bodies
-- contain the number, and `facts` those of the clauses whose bodies are empty. All entries of the rows and of `facts` are indices
-- of clauses.
pub record AreWaiting (clauses : List Clause) (uses : List (List ℕ)) (facts : List ℕ) : Type 0 where
  pub below : All (IsClauseBelow (length uses)) clauses
  pub listed : (p t : ℕ) (d : Clause) → p < length clauses → Contains (slice_index_or clauses p d).body t
      → Contains (row uses t) p
  pub fits : (t : ℕ) → All (λ p. p < length clauses) (row uses t)
  pub facts_listed : (p : ℕ) (d : Clause) → p < length clauses → (slice_index_or clauses p d).body ≡ [] → Contains facts p
  pub facts_fit : All (λ p. p < length clauses) facts
