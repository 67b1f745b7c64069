-- The effect of a put on a writer. This project's.
use Rattle.std.specs.Prelude.{◌≡◌, ◌+◌, Result, IsErrOf, OnOk, true}
use Rattle.treefile.specs.framing.Writing.{Progress}
use Rattle.treefile.specs.declared.device.DeviceFault.{DeviceFault}
use Rattle.treefile.specs.declared.device.DeviceFault.TheVariants.{Failed, NoMemory}

-- After Ok one more frame is counted. After D1 (Failed) the writer is broken. A put of a writer that was broken before fails with
-- D1, and leaves the device unchanged. After NoMemory the writer is unchanged.
pub record PutEffect {A D : Type 0} (device_old device_new : D) (old new : Progress)
    (result : Result A DeviceFault) : Type 0 where
  pub counted : OnOk result (new ≡ record old { written = old.written + 1 })
  pub breaks : IsErrOf result Failed → new ≡ record old { is_broken = true }
  pub broken : old.is_broken ≡ true → IsErrOf result Failed × (device_new ≡ device_old)
  pub unchanged : IsErrOf result NoMemory → new ≡ old
