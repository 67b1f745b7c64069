-- The strikes of each pass of an assignment, which show that no attribute can have an earlier pass.
use Rattle.std.specs.Prelude.{ℕ, zero, suc, ◌≡◌, ◌+◌, ◌<◌, ◌≤◌, List, [], Some, slice_get, slice_index_or, length}
use Rattle.ag_grammar.specs.grammars.AttributeGrammar.{Grammar}
use Rattle.ag_grammar.specs.grammars.Passes.{Passes, direction_of}
use Rattle.ag_grammar.specs.declared.direction.Direction.{Direction}
use Rattle.ag_grammar.specs.declared.direction.Direction.TheVariants.{LeftToRight, RightToLeft}
use Rattle.passassign.specs.declared.stuck.Strike.{Strike}
use Rattle.passassign.specs.declared.stuck.Stuck.{Stuck}
use Rattle.passassign.specs.Certificate.{StrikesExactly}
use Rattle.passassign.specs.Least.{Partial, partial_of, IsAttribute}
use Rattle.passassign.specs.Rows.{passes_of, IsGreatest}

-- an attribute has pass k or a later one: it is a candidate for pass k
abbrev pub HasPassFrom : Passes → (k s a : ℕ) → Type 0
HasPassFrom m k s a = (p : ℕ) × (partial_of m s a ≡ Some p) × (k ≤ p)

-- an attribute has a later pass than k: pass k has to strike it
abbrev pub HasPassAfter : Passes → (k s a : ℕ) → Type 0
HasPassAfter m k s a = (p : ℕ) × (partial_of m s a ≡ Some p) × (k < p)

-- The strikes of pass k of an assignment: good ones of each attribute that has a later pass, and of no
-- others.
abbrev pub AreStrikesAt : Grammar → Passes → ℕ → List Strike → Type 0
AreStrikesAt g m k xs = StrikesExactly g (direction_of k) (HasPassFrom m k) (HasPassAfter m k) xs

-- The strikes of an assignment: one list for each of its passes, the first for pass 1. The last list is empty, since no attribute
-- has a later pass (this project's).
pub record AreStrikesOf (g : Grammar) (rows : List (List ℕ)) (lists : List (List Strike)) : Type 0 where
  pub count : IsGreatest (length lists) rows
  pub each : (i : ℕ) (xs : List Strike) → slice_get lists i ≡ Some xs → AreStrikesAt g (passes_of rows) (i + 1) xs

-- the strikes of a pass, from 1
abbrev pub strikes_of : List (List Strike) → ℕ → List Strike
strikes_of lists zero = []
strikes_of lists (suc k) = slice_index_or lists k []

-- the list of a certificate for a pass of this direction
abbrev pub list_for : Stuck → Direction → List Strike
list_for c RightToLeft = c.odd
list_for c LeftToRight = c.even

-- an attribute has no pass before k
abbrev pub HasNoPassBelow : Grammar → Partial → (k s a : ℕ) → Type 0
HasNoPassBelow g m k s a = IsAttribute g s a × ((p : ℕ) → m s a ≡ Some p → k ≤ p)

-- an attribute has no pass up to k
abbrev pub HasNoPassUpTo : Grammar → Partial → (k s a : ℕ) → Type 0
HasNoPassUpTo g m k s a = IsAttribute g s a × ((p : ℕ) → m s a ≡ Some p → k < p)

-- The lists are the strikes of the passes before `next`, which made the partial assignment m. An attribute without a pass counts
-- as one that has a later pass.
pub record AreStrikesSoFar (g : Grammar) (next : ℕ) (m : Partial) (lists : List (List Strike)) : Type 0 where
  pub count : length lists + 1 ≡ next
  pub each : (i : ℕ) (xs : List Strike) → slice_get lists i ≡ Some xs
      → StrikesExactly g (direction_of (i + 1)) (HasNoPassBelow g m (i + 1)) (HasNoPassUpTo g m (i + 1)) xs

-- some attribute has the pass before `next`
abbrev pub IsLastInUse : ℕ → Partial → Type 0
IsLastInUse next m = (k s a : ℕ) × (k + 1 ≡ next) × (m s a ≡ Some k)
