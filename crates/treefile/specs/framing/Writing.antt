-- The progress of writing a tree file. This project's.
use Rattle.std.specs.Prelude.{ℕ, Bool}

-- the number of frames that the writer appended, and whether it is broken: whether the device failed when one was appended
pub record Progress : Type 0 where
  pub written : ℕ
  pub is_broken : Bool
