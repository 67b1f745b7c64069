-- The tokens of a text with their offsets, and their ending. What a parser of tokens returns depends on nothing else of the text.
use Rattle.std.specs.Prelude.{ℕ, List, map}
use Rattle.ag_tokens.specs.Ending.{Ending}
use Rattle.ag_tokens.specs.GrammarToken.{GrammarToken}

-- a token and its offset in bytes
pub record PlacedToken : Type 0 where
  pub at : ℕ
  pub token : GrammarToken

-- the tokens of a text that are not yet read (`left`), and the ending after them
pub record Input : Type 0 where
  pub left : List PlacedToken
  pub ending : Ending

-- the tokens without their offsets
abbrev pub tokens : List PlacedToken → List GrammarToken
tokens = map (λ p. p.token)
