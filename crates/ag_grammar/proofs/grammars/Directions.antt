-- The direction of a pass, from its parity.
use Rattle.ag_grammar.proofs.Common
use Common.{ℕ, zero, suc, ◌≡◌, ◌%◌, ◌⊎◌, inl, inr, refl, ap, sym, arith, LeftToRight, RightToLeft, direction_of, other}

pub parity : (k : ℕ) → ((k % 2 ≡ 0) × (direction_of k ≡ LeftToRight)) ⊎ ((k % 2 ≡ 1) × (direction_of k ≡ RightToLeft))
parity zero = inl (refl, refl)
parity (suc k) = elim (parity k) [
  | inl h ↦ (let e = h.0 in inr (omega arith, ap other h.1))
  | inr h ↦ (let e = h.0 in inl (omega arith, ap other h.1))
]

pub even : (k : ℕ) → k % 2 ≡ 0 → LeftToRight ≡ direction_of k
even k e = elim (parity k) [
  | inl h ↦ sym h.1
  | inr h ↦ (let f = h.0 in absurd (omega arith))
]

pub odd : (k : ℕ) → (k % 2 ≡ 0 → ⊥) → RightToLeft ≡ direction_of k
odd k n = elim (parity k) [
  | inl h ↦ absurd (n h.0)
  | inr h ↦ sym h.1
]

pub ruleset by_parity = (even, odd)
