-- A device with a fuse, which fails at one of its calls. All of this is this project's.
use Rattle.std.specs.Prelude.{◌≡◌, ◌≢◌, ℕ, ◌+◌, ◌-◌, min, Bool}
use Rattle.treefile.specs.devices.Device.{HasRisen, Persists, max_failures}

-- the device that gets the calls (`inner`), the number of calls up to the one that fails (1: the next; 0: there is none), and the
-- number of failed calls that `inner` did not get
pub record Fuse (D : Type 0) : Type 0 where
  pub inner : D
  pub left : ℕ
  pub failed : ℕ

-- the number of all failures, up to the greatest that is counted: those of the device that gets the calls, and those of calls
-- that it did not get
abbrev pub failures_of : {D : Type 0} → (D → ℕ) → Fuse D → ℕ
failures_of failures fuse = min (failures fuse.inner + fuse.failed) max_failures

-- the effects of a call on a device with a fuse besides its content; `honest` and `failures` give the honesty and the number of
-- failures of the device that gets the calls, and `failed` states that the call failed with D1
abbrev pub FusePersists : {D : Type 0} → (D → Bool) → (D → ℕ) → Fuse D → Fuse D → Type 0 → Type 0
FusePersists honest failures old new failed =
    Persists (honest old.inner) (honest new.inner) (failures_of failures old) (failures_of failures new) failed

-- The effect of a call, where the argument `failed` states that the call fails with D1. The number of calls up to the failing
-- one falls by one, and stays 0 if it is 0. The failing call fails with D1, and the device that gets the calls is unchanged.
-- Any other call is forwarded to that device. It keeps the number `failed` of the fuse, and fails with D1 only if the failures
-- of that device rose.
pub record FuseEffect {D : Type 0} (failures : D → ℕ) (old new : Fuse D) (failed : Type 0) : Type 0 where
  pub left : new.left ≡ old.left - 1
  pub fails : old.left ≡ 1 → failed × (new.inner ≡ old.inner)
  pub known : old.left ≢ 1 → new.failed ≡ old.failed
  pub passes : old.left ≢ 1 → failed → HasRisen (failures old.inner) (failures new.inner)
