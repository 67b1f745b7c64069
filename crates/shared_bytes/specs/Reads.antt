-- How far the bytes of a slice were read. All of this is this project's.
use Rattle.std.specs.Prelude.{◌≡◌, ℕ, ◌+◌, ◌<◌, ◌≤◌, List, take, drop, length}

-- The pieces of `content` before offset `place` were copied to `out`, unless it was full before: the first `done` bytes of `out`
-- are those of `content` from offset `at` on, and if `out` is not full, they end at offset `place` or later.
pub record HasRead (place at done : ℕ) (content out : List ℕ) : Type 0 where
  pub within : done ≤ length out
  pub same : take done out ≡ take done (drop at content)
  pub reached : done < length out → place ≤ at + done
