-- Texts with several owners. All of this is this project's.
use Rattle.std.specs.Prelude.{◌≡◌, ◌≤◌, ◌+◌, ℕ, List, length, true}
use Rattle.std.specs.Str.{is_utf8}
use Rattle.ag_value.specs.Measure.{max_weight}

-- a text within the limits: UTF-8, and with an encoding of at most `max_weight` bytes (five bytes and the text)
pub record IsTextWithinLimits (bytes : List ℕ) : Type 0 where
  pub utf8 : is_utf8 bytes ≡ true
  pub short : 5 + length bytes ≤ max_weight
