-- Numbers that are added one after the other, and the reasons why (Dowling and Gallier 1984).
use Rattle.std.specs.Prelude.{ℕ, ◌≡◌, ◌<◌, List, All, Some, slice_get}
use Rattle.closure.specs.declared.addition.Addition.{Addition}
use Rattle.closure.specs.declared.addition.Reason.{Reason}
use Rattle.closure.specs.declared.addition.Reason.TheVariants as reason
use Rattle.closure.specs.declared.clause.Clause.{Clause}

-- one of these additions is that of the number t
abbrev pub IsAdded : List Addition → ℕ → Type 0
IsAdded xs t = (i : ℕ) × (x : Addition) × (slice_get xs i ≡ Some x) × (x.number ≡ t)

-- an addition at an index below n is that of the number t
abbrev pub IsAddedBefore : List Addition → ℕ → ℕ → Type 0
IsAddedBefore xs n t = (i : ℕ) × (x : Addition) × (i < n) × (slice_get xs i ≡ Some x) × (x.number ≡ t)

-- The number n follows for this reason. `Seed i`: n is the seed with index i. `Clause p`: n is the head of the clause with index
-- p, and each number of this clause's body satisfies `there`.
abbrev pub IsReason : List Clause → List ℕ → (there : ℕ → Type 0) → ℕ → Reason → Type 0
IsReason clauses seeds there n (reason.Seed i) = slice_get seeds i ≡ Some n
IsReason clauses seeds there n (reason.Clause p) = (q : Clause) × (slice_get clauses p ≡ Some q) × (q.head ≡ n) × All there q.body

-- The list `xs` of additions has no number twice. Each number has a reason why it follows. If the reason is a clause, the numbers
-- of its body are earlier in the list.
pub record AreInOrder (clauses : List Clause) (seeds : List ℕ) (xs : List Addition) : Type 0 where
  pub once : (i j : ℕ) (x y : Addition) → slice_get xs i ≡ Some x → slice_get xs j ≡ Some y → x.number ≡ y.number → i ≡ j
  pub reasoned : (i : ℕ) (x : Addition) → slice_get xs i ≡ Some x → IsReason clauses seeds (IsAddedBefore xs i) x.number x.reason
