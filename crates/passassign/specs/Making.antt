-- Passes that are made one after the other, each with as many attributes as possible.
use Rattle.std.specs.Prelude.{ℕ, suc, ◌≡◌, ◌↔◌, List, [], Option, Some, None, Bool, true, false}
use Rattle.ag_grammar.specs.grammars.AttributeGrammar.{Grammar}
use Rattle.ag_grammar.specs.declared.direction.Direction.{Direction}
use Rattle.ag_grammar.specs.grammars.Passes.{direction_of}
use Rattle.passassign.specs.declared.stuck.Strike.{Strike}
use Rattle.passassign.specs.Certificate.{Attributes, IsStruckBy, IsGood, AreGood}
use Rattle.passassign.specs.Least.{Partial, IsAttribute}

-- an attribute that has no pass yet
abbrev pub IsOpen : Grammar → Partial → ℕ → ℕ → Type 0
IsOpen g m s a = IsAttribute g s a × (m s a ≡ None)

-- no candidate that the list does not strike can be struck
abbrev pub AreFinished : Grammar → Direction → Attributes → List Strike → Type 0
AreFinished g d candidate xs = (x : Strike) → candidate x.symbol x.attr → IsGood g d candidate xs x
    → IsStruckBy xs x.symbol x.attr

-- Pass k extends a partial assignment: of the attributes without a pass some are struck, one by one, until no
-- other can be, and the rest get pass k (after Jazayeri and Walter 1975). An attribute keeps its pass (`kept`), or it
-- gets pass k and is not struck (`gained`), or it is struck and still has no pass (`left`).
pub record IsPass (g : Grammar) (k : ℕ) (before after : Partial) (strikes : List Strike) : Type 0 where
  pub good : AreGood g (direction_of k) (IsOpen g before) [] strikes
  pub finished : AreFinished g (direction_of k) (IsOpen g before) strikes
  pub kept : (s a p : ℕ) → before s a ≡ Some p → after s a ≡ Some p
  pub gained : (s a p : ℕ) → before s a ≡ None → after s a ≡ Some p → IsAttribute g s a × (p ≡ k) × (IsStruckBy strikes s a → ⊥)
  pub left : (s a : ℕ) → IsOpen g before s a → after s a ≡ None → IsStruckBy strikes s a

-- The assignments that the passes before pass k make, starting from the empty one (after Jazayeri and Walter
-- 1975).
pub data IsMade (g : Grammar) : ℕ → Partial → Type 0 where
  start : (m : Partial) → ((s a : ℕ) → m s a ≡ None) → IsMade g 1 m
  passed : (k : ℕ) (m after : Partial) (strikes : List Strike) → IsMade g k m → IsPass g k m after strikes
      → IsMade g (suc k) after

-- Two idle passes: pass k and the next one assign no attribute a pass (this project's).
pub record AreIdle (g : Grammar) (k : ℕ) (m : Partial) (first second : List Strike) : Type 0 where
  pub between : Partial
  pub last : Partial
  pub one : IsPass g k m between first
  pub other : IsPass g (suc k) between last second
  pub idle : (s a : ℕ) → m s a ≡ None → last s a ≡ None

-- marks are those of the attributes that a list strikes
abbrev pub AreMarks : (ℕ → ℕ → Bool) → List Strike → Type 0
AreMarks hit xs = (s a : ℕ) → (hit s a ≡ true) ↔ IsStruckBy xs s a

-- the pass of an attribute after pass k: its old one if it has one; otherwise none if it is marked as struck, and k if not
abbrev pub pass_after : ℕ → Option ℕ → Bool → Option ℕ
pass_after k (Some p) hit = Some p
pass_after k None true = None
pass_after k None false = Some k
