-- The bytes of a writer after writing a text, completely or up to a failed write.
use Rattle.std.specs.Prelude.{◌≡◌, ℕ, List, ◌++◌, Option}
use Rattle.std.specs.Io.KnownBytes.{Appends}

-- a prefix of `bytes`, possibly none or all of them, was appended to the writer's bytes, if contracts can name these
pub record AppendsBeginning (old new : Option (List ℕ)) (bytes : List ℕ) : Type 0 where
  pub prefix : List ℕ
  pub rest : List ℕ
  pub cut : bytes ≡ prefix ++ rest
  pub put : Appends old new prefix
