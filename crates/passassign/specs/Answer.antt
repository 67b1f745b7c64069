-- The faults of `assign`.
use Rattle.std.specs.Prelude.{ℕ, ◌≡◌, ◌<◌, ◌⊎◌, ◌↔◌, List, Some, slice_get}
use Rattle.ag_grammar.specs.grammars.AttributeGrammar.{Grammar}
use Rattle.ag_grammar.specs.grammars.Passes.{direction_of}
use Rattle.passassign.specs.declared.assigning.AssignFault.{AssignFault}
use Rattle.passassign.specs.declared.assigning.AssignFault.TheVariants as fault
use Rattle.passassign.specs.declared.stuck.Strike.{Strike}
use Rattle.passassign.specs.declared.stuck.Stuck.{Stuck}
use Rattle.passassign.specs.Certificate.{Members, IsCertificate, stuck_of}
use Rattle.passassign.specs.Least.{Partial, IsAttribute, IsStuck, IsAlternating}
use Rattle.passassign.specs.Making.{IsMade, AreIdle}

-- attributes are in declared order: by their symbols, and for one symbol by their own numbers
abbrev pub IsInDeclaredOrder : List (ℕ × ℕ) → Type 0
IsInDeclaredOrder set = (i j : ℕ) (x y : ℕ × ℕ) → slice_get set i ≡ Some x → slice_get set j ≡ Some y → i < j
    → (x.0 < y.0) ⊎ ((x.0 ≡ y.0) × (x.1 < y.1))

-- The strikes are those of two consecutive passes that assign nothing, after passes made from pass 1 on.
pub record IsOfIdlePasses (g : Grammar) (c : Stuck) : Type 0 where
  pub pass : ℕ
  pub before : Partial
  pub first : List Strike
  pub second : List Strike
  pub made : IsMade g pass before
  pub idle : AreIdle g pass before first second
  pub strikes : c ≡ stuck_of (direction_of pass) c.set first second

-- The meaning of A1: no assignment is legal; the set has exactly the stuck attributes, in declared order; and with
-- the strikes of two consecutive passes that assign nothing it is a certificate (this project's).
pub record IsRefused (g : Grammar) (c : Stuck) : Type 0 where
  pub none : IsAlternating g → ⊥
  pub all : (s a : ℕ) → Members c.set s a ↔ (IsAttribute g s a × IsStuck g s a)
  pub ordered : IsInDeclaredOrder c.set
  pub certificate : IsCertificate g c
  pub made : IsOfIdlePasses g c

-- The meaning of a fault of `assign`; NoMemory has none.
abbrev pub IsFault : Grammar → AssignFault → Type 0
IsFault g (fault.Stuck c) = IsRefused g c
IsFault g fault.NoMemory = Unit {0}
