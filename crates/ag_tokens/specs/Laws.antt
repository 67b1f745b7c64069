-- Statements of the laws of tokens.
use Rattle.std.specs.Prelude.{◌≡◌, ◌++◌, List, ℕ, Some, None}
use Rattle.ag_tokens.specs.Lexing.{token_from}
use Rattle.ag_tokens.specs.PlacedToken.{Input}
use Rattle.ag_tokens.specs.GrammarToken.{GrammarToken}
use Rattle.ag_tokens.specs.Tokens.{BeginsNoToken, IsLongest, IsToken, Lexes}

-- A text has exactly one list of tokens with offsets, and one ending.
abbrev pub OneInput : Type 0
OneInput = (cs : List ℕ) → (i : Input) × Lexes 0 cs i × ((j : Input) → Lexes 0 cs j → j ≡ i)

-- If `token_from` returns a token, it is the longest one at the beginning of the characters.
abbrev pub LongestIsCut : Type 0
LongestIsCut = (characters rest : List ℕ) (t : GrammarToken) → token_from characters ≡ Some (t, rest)
    → (word : List ℕ) × (characters ≡ word ++ rest) × IsToken word t × IsLongest word rest

-- If `token_from` returns `None`, the characters begin with no token.
abbrev pub NothingIsCut : Type 0
NothingIsCut = (characters : List ℕ) → token_from characters ≡ None → BeginsNoToken characters
