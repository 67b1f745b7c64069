-- A part of some bytes. All of this is this project's.
use Rattle.std.specs.Prelude.{◌≡◌, ◌++◌, ◌<◌, ℕ, List, length}

-- the bytes begin with a piece that is not empty
pub record IsPiece (bytes piece : List ℕ) : Type 0 where
  pub after : List ℕ
  pub parts : bytes ≡ piece ++ after
  pub some : 0 < length piece
