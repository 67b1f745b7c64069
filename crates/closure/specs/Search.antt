-- The invariants of the search for the closure.
use Rattle.std.specs.Prelude.{ℕ, ◌≡◌, ◌<◌, ◌≤◌, ◌⊎◌, ◌↔◌, Bool, true, false, List, Some, length, take, slice_get, slice_index}
use Rattle.std.specs.Prelude.{slice_index_or, count_by, All, Contains}
use Rattle.std.specs.List.{list_all}
use Rattle.closure.specs.Additions.{IsAdded, AreInOrder}
use Rattle.closure.specs.Clauses.{IsClauseBelow}
use Rattle.closure.specs.Following.{Follows, is_marked}
use Rattle.closure.specs.declared.addition.Addition.{Addition}
use Rattle.closure.specs.declared.clause.Clause.{Clause}

-- The number t is not marked, or it is added and its visit has not begun. A visit of a number visits the clauses whose bodies
-- contain it. `visited` is the number of additions, from the first on, whose visit has begun.
abbrev pub IsOpen : List Bool → List Addition → (visited : ℕ) → ℕ → Type 0
IsOpen marks added visited t =
    (is_marked marks t ≡ false) ⊎ ((i : ℕ) × (x : Addition) × (visited ≤ i) × (slice_get added i ≡ Some x) × (x.number ≡ t))

-- A clause whose head is marked, or whose body has an open number (`IsOpen`). At the end of a search the visit of each marked
-- number has begun and ended. So a settled clause whose whole body is marked then has a marked head.
abbrev pub IsSettled : List Bool → List Addition → ℕ → Clause → Type 0
IsSettled marks added visited q = (is_marked marks q.head ≡ true) ⊎ ((t : ℕ) × Contains q.body t × IsOpen marks added visited t)

-- From the marks and additions before a call to those after it (`marks'` and `added'`): the list of marks keeps its length,
-- marked numbers stay marked, and open numbers stay open.
pub record Grows (visited : ℕ) (marks : List Bool) (added : List Addition) (marks' : List Bool)
    (added' : List Addition) : Type 0 where
  pub count : length marks' ≡ length marks
  pub marked : (t : ℕ) → is_marked marks t ≡ true → is_marked marks' t ≡ true
  pub open_stays : (t : ℕ) → IsOpen marks added visited t → IsOpen marks' added' visited t

-- The invariant of a search over the numbers below the length of `marks`: marked numbers follow, and are added once, each after
-- the numbers of the body by which it follows. `visited` is as in `IsOpen`. `passed` has, for each clause, the length of a prefix
-- of its body; the numbers of this prefix are marked.
pub record IsSearch (clauses : List Clause) (seeds : List ℕ) (marks : List Bool) (added : List Addition) (visited : ℕ)
    (passed : List ℕ) : Type 0 where
  pub below : All (IsClauseBelow (length marks)) clauses
  pub count : length passed ≡ length clauses
  pub visited_within : visited ≤ length added
  pub len : length added ≡ count_by (λ b. b) marks
  pub is_added : (t : ℕ) → is_marked marks t ≡ true ↔ IsAdded added t
  pub order : AreInOrder clauses seeds added
  pub sound : (t : ℕ) → is_marked marks t ≡ true → Follows clauses seeds t
  pub within : (p : ℕ) (d : Clause) → p < length clauses → slice_index passed p ≤ length (slice_index_or clauses p d).body
  pub marked : (p : ℕ) (d : Clause) → p < length clauses
      → list_all (is_marked marks) (take (slice_index passed p) (slice_index_or clauses p d).body) ≡ true
