-- The status of a batch, as the program computes it.
use Rattle.std.proofs.Common.{◌≡◌, ℕ, Option, Some, None, refl}
use Rattle.std.specs.Option.{unwrap_or}
use Rattle.translation_commands.specs.Batches.{status_of_first}

pub status_computed : (first : Option ℕ) → unwrap_or first 0 ≡ status_of_first first
status_computed None = refl
status_computed (Some status) = refl
