-- The effects of a call on two or three devices that it uses, besides their contents. All of this is this project's.
use Rattle.std.specs.Prelude.{ℕ, ◌⊎◌, Bool, true}
use Rattle.std.proofs.Common.{inl, inr, lit<, lit≤}
use Rattle.treefile.specs.devices.Device.{HasRisen, Persists}

-- The effects of a call on a device besides its content. Nothing is claimed of the result of the call. `honest` and `failures`
-- give the honesty and the number of failures of a device of this type.
abbrev pub Lasts : {D : Type 0} → (D → Bool) → (D → ℕ) → D → D → Type 0
Lasts honest failures old new = Persists (honest old) (honest new) (failures old) (failures new) ⊥

-- A call has these effects (`Lasts`) on two devices. Before the call they are `old` and `other_old`, after it `new` and
-- `other_new`. If the call returns that a device failed, which `failed` states, the failures of one of the two have risen.
pub record BothPersist {D E : Type 0} (honest : D → Bool) (failures : D → ℕ) (old new : D) (other_honest : E → Bool)
    (other_failures : E → ℕ) (other_old other_new : E) (failed : Type 0) : Type 0 where
  pub first : Lasts honest failures old new
  pub second : Lasts other_honest other_failures other_old other_new
  pub cause : failed → HasRisen (failures old) (failures new) ⊎ HasRisen (other_failures other_old) (other_failures other_new)

-- The same for three devices.
pub record ThreePersist {D E F : Type 0} (honest : D → Bool) (failures : D → ℕ) (old new : D) (other_honest : E → Bool)
    (other_failures : E → ℕ) (other_old other_new : E) (last_honest : F → Bool) (last_failures : F → ℕ) (last_old last_new : F)
    (failed : Type 0) : Type 0 where
  pub first : Lasts honest failures old new
  pub second : Lasts other_honest other_failures other_old other_new
  pub third : Lasts last_honest last_failures last_old last_new
  pub cause : failed → HasRisen (failures old) (failures new)
      ⊎ (HasRisen (other_failures other_old) (other_failures other_new)
      ⊎ HasRisen (last_failures last_old) (last_failures last_new))

-- ---- worked examples

-- a call whose second device failed: the first had three failures before, and the second none
pub second_failed : BothPersist {D = ℕ} {E = ℕ} (λ _. true) (λ n. n) 3 3 (λ _. true) (λ n. n) 0 1 (Unit {0})
second_failed = record {
  first = record { honest = λ same. same; kept = lit≤ tt; bounded = λ most. most; cause = λ none. absurd none };
  second = record { honest = λ same. same; kept = lit≤ tt; bounded = λ most. lit≤ tt; cause = λ none. absurd none };
  cause = λ failed. inr (inl (lit< tt));
}
