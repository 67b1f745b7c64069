-- The content of a tree file that is being written, or whose writing failed. All of this is this project's.
use Rattle.std.specs.Prelude.{◌≡◌, ℕ, ◌⊎◌, List, [], ◌++◌, Result, Ok, Err, All}
use Rattle.std.specs.List.{flat_map}
use Rattle.treefile.specs.devices.Device.{AppendsPrefix}
use Rattle.treefile.specs.framing.Ending.{IsBody}
use Rattle.treefile.specs.records.TreeFile.{file, frame, version_two}

-- The bytes appended to a content: the frames of some bodies, and after an error a prefix of these, possibly
-- none or all.
abbrev pub AddsFrames : {E : Type 0} → (old new : List ℕ) → Result (Unit {0}) E → Type 0
AddsFrames old new (Ok u) = (bodies : List (List ℕ)) × All (IsBody version_two) bodies × (new ≡ old ++ flat_map frame bodies)
AddsFrames old new (Err fault) =
    (bodies : List (List ℕ)) × All (IsBody version_two) bodies × AppendsPrefix (flat_map frame bodies) old new

-- A content is a prefix of a file of a pass: of its header and the frames of some bodies, possibly empty or
-- whole.
pub record BeginsFile (pass : ℕ) (content : List ℕ) : Type 0 where
  pub bodies : List (List ℕ)
  pub sound : All (IsBody version_two) bodies
  pub prefix : AppendsPrefix (file version_two pass bodies) [] content

-- the content after an error: the old one, or a prefix of a file of the pass
abbrev pub LeavesBeginning : ℕ → (old new : List ℕ) → Type 0
LeavesBeginning pass old new = (new ≡ old) ⊎ BeginsFile pass new
