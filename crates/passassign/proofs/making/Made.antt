-- The assignment that passes make gives no attribute a later pass than any legal partial assignment, and no pass that
-- isn't made yet.
use Rattle.passassign.proofs.Common
use Common.{ℕ, ◌≡◌, ◌<◌, ◌≤◌, ◌⊎◌, inl, inr, List, Some, None, arith, Grammar, Strike, IsStruckBy, Partial, IsAttribute}
use Common.{IsLegalPartial, IsOpen, IsMade, IsPass, start, passed}
use Rattle.passassign.proofs.slots.Options.{some_or_none}
use Rattle.passassign.proofs.making.Struck.{struck_later}

-- an attribute with a pass after pass k had it before, or it had none and pass k is assigned to it
pub old_or_new : {g : Grammar} {k : ℕ} {m after : Partial} {strikes : List Strike} → IsPass g k m after strikes → (s a p : ℕ)
    → after s a ≡ Some p → (m s a ≡ Some p) ⊎ ((m s a ≡ None) × (IsAttribute g s a × (p ≡ k) × (IsStruckBy strikes s a → ⊥)))
old_or_new {m = m} pass s a p e = elim (some_or_none (m s a)) [
  | inl old ↦ (let kept = pass.kept s a old.0 old.1 in inl cc)
  | inr none ↦ inr (none, pass.gained s a p none e)
]

-- the next pass is at least 1
pub made_positive : {g : Grammar} {k : ℕ} {m : Partial} → IsMade g k m → 1 ≤ k
made_positive (start m none) = omega arith
made_positive (passed k m after strikes made pass) = omega arith

pub made_before : {g : Grammar} {k : ℕ} {m : Partial} → IsMade g k m → (s a p : ℕ) → m s a ≡ Some p → p < k
made_before (start m none) s a p e = cc (none s a)
made_before (passed k m after strikes made pass) s a p e = elim (old_or_new pass s a p e) [
  | inl old ↦ omega (arith, made_before made s a p old)
  | inr new ↦ omega arith
]

module _ (g : Grammar) (n : Partial) (legal : IsLegalPartial g n) where
  not_before : {k : ℕ} {m : Partial} → IsMade g k m → (s a p : ℕ) → n s a ≡ Some p → m s a ≡ None → k ≤ p
  not_before (start m none) s a p e gap = legal.positive s a p e
  not_before (passed k m after strikes made pass) s a p e gap = elim (some_or_none (m s a)) [
    | inl old ↦ cc (pass.kept s a old.0 old.1)
    | inr none ↦ struck_later legal k (IsOpen g m) (λ u b c is has. not_before made u b c has is.1) strikes pass.good s a p
        (pass.left s a (legal.known s a p e, none) gap) e
  ]

  not_above : {k : ℕ} {m : Partial} → IsMade g k m → (s a p j : ℕ) → n s a ≡ Some p → m s a ≡ Some j → j ≤ p
  not_above (start m none) s a p j e f = cc (none s a)
  not_above (passed k m after strikes made pass) s a p j e f = elim (old_or_new pass s a j f) [
    | inl old ↦ not_above made s a p j e old
    | inr new ↦ omega (arith, not_before made s a p e new.0)
  ]

pub made_at_most : (g : Grammar) (k : ℕ) (m n : Partial) → IsMade g k m → IsLegalPartial g n → (s a p q : ℕ) → m s a ≡ Some p
    → n s a ≡ Some q → p ≤ q
made_at_most g k m n made legal s a p q e f = not_above g n legal made s a q p f e

pub left_later : (g : Grammar) (k : ℕ) (m n : Partial) → IsMade g k m → IsLegalPartial g n → (s a q : ℕ) → m s a ≡ None
    → n s a ≡ Some q → k ≤ q
left_later g k m n made legal s a q gap f = not_before g n legal made s a q f gap
