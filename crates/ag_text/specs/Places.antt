-- The contracts of the functions that find the faults of a text's tokens (this project's).
use Rattle.std.specs.Prelude.{◌≡◌, ℕ, true, List, [], ◌∷◌, ◌++◌, drop, Option, Some, None, Ok, Err, chars}
use Rattle.std.specs.Str.{IsCharBoundary}
use Rattle.ag_tokens.specs.Parsing.{sees}
use Rattle.ag_tokens.specs.PlacedToken.{Input}
use Rattle.ag_tokens.specs.Tokens.{Lexes}
use Rattle.ag_text.specs.Reading.{Outcome, is_any}
use Rattle.ag_text.specs.Resuming.{resumed}
use Rattle.ag_text.specs.declared.stop.Stop.{Stop}

-- the input has a token, and the tokens of the text from this byte offset on are those of the input; or there is no offset, and the
-- input has no tokens
abbrev pub IsPlace : List ℕ → Input → Option ℕ → Type 0
IsPlace text i None = i.left ≡ []
IsPlace text i (Some at) = IsCharBoundary text at × (sees is_any i ≡ true) × Lexes at (chars (drop at text)) i

-- The outcome is that of reading the input i, which is of the text. If it is a fault, `after` is the list `before` with the fault
-- at its end, and `next` is the place of the next part; else `after` is `before`, and there is no place.
abbrev pub IsNoted : {A : Type 0} → List ℕ → Input → Outcome A → List Stop → List Stop → Option ℕ → Type 0
IsNoted text i (Ok x) before after next = (after ≡ before) × (next ≡ None)
IsNoted text i (Err s) before after next = (after ≡ before ++ s ∷ []) × IsPlace text (resumed s i) next
