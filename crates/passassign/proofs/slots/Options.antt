-- Facts about a pass that an attribute may have.
use Rattle.passassign.proofs.Common.{ℕ, ◌≡◌, ◌⊎◌, inl, inr, Option, Some, None, refl}

pub some_or_none : (x : Option ℕ) → ((p : ℕ) × (x ≡ Some p)) ⊎ (x ≡ None)
some_or_none None = inr refl
some_or_none (Some p) = inl (p, refl)

pub none_of : (x : Option ℕ) → ((p : ℕ) → x ≡ Some p → ⊥) → x ≡ None
none_of None h = refl
none_of (Some p) h = absurd (h p refl)
