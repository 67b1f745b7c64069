-- The condition under which the reading of a tree file can continue. All of this is this project's.
use Rattle.std.specs.Prelude.{◌≡◌, ℕ, Bool, List, None}
use Rattle.backreader.specs.BackState.{BackState, IsOver}
use Rattle.treefile.specs.devices.Device.{WhenHonest}
use Rattle.treefile.specs.records.TreeFile.{version_two}

-- The reader is one of a file of version 2, and no call of it failed except with NoMemory. If the device is honest, the reader
-- reads this content.
pub record IsReady (honest : Bool) (content : List ℕ) (state : BackState) : Type 0 where
  pub over : WhenHonest honest (IsOver content state)
  pub version : state.progress.version ≡ version_two
  pub unbroken : state.progress.fault ≡ None
