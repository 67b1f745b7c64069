-- Writing records. All definitions are this project's.
use Rattle.std.specs.Prelude.{ℕ, ◌≡◌, ◌+◌, Bool, List, ◌++◌, Ok, Err}
use Rattle.ag_value.specs.declared.value.Value.{Value}
use Rattle.treefile.specs.declared.body.Kind.{Kind}
use Rattle.treefile.specs.framing.Beginning as beginning
use Rattle.treefile.specs.devices.Device.{WhenHonest}
use Rattle.treefile.specs.records.TreeFile.{body_of, frame}
use Rattle.treefile.specs.framing.Writing as writing
use Rattle.pass_rows.specs.declared.run_fault.RunFault.{RunFault}

-- The writer counted one more record, and if the device is honest, the frame of a record with these values was appended to its
-- content.
pub record HasPut (kind : Kind) (number : ℕ) (values : List Value) (honest : Bool) (old new : List ℕ)
    (old_writer new_writer : writing.Progress) : Type 0 where
  pub there : WhenHonest honest (new ≡ old ++ frame (body_of kind number values))
  pub counted : new_writer ≡ record old_writer { written = old_writer.written + 1 }

-- If the device is honest, frames, possibly none, were appended to its content.
abbrev pub AddsFrames : Bool → (old new : List ℕ) → Type 0
AddsFrames honest old new = WhenHonest honest (beginning.AddsFrames {E = RunFault} old new (Ok tt))

-- After a failure with the fault f: if the device is honest, a prefix of some frames, possibly none or all of them, was appended
-- to its content.
abbrev pub LeavesFrames : Bool → (old new : List ℕ) → RunFault → Type 0
LeavesFrames honest old new f = WhenHonest honest (beginning.AddsFrames {E = RunFault} old new (Err f))
