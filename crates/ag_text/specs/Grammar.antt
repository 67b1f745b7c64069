-- The texts that read as grammars (this project's).
use Rattle.std.specs.Prelude.{◌≤◌, ℕ, List, length, chars, IsUtf8}
use Rattle.ag_tokens.specs.Ending as ending
use Rattle.ag_tokens.specs.PlacedToken.{PlacedToken}
use Rattle.ag_tokens.specs.Tokens.{Lexes}
use Rattle.ag_grammar.specs.declared.raw.RawGrammar.{RawGrammar}
use Rattle.ag_grammar.specs.grammars.Accepted.{max_text_bytes}
use Rattle.ag_text.specs.Syntax.{IsGrammar}

-- The text reads as the grammar: it has at most 1,048,576 bytes and is UTF-8; it is separators and longest tokens, with each
-- number and place within its limit; and the tokens spell the grammar.
pub record ReadsAsGrammar (text : List ℕ) (raw : RawGrammar) : Type 0 where
  pub short : length text ≤ max_text_bytes
  pub utf8 : IsUtf8 text
  pub placed : List PlacedToken
  pub lexes : Lexes 0 (chars text) (record { left = placed; ending = ending.EndsAt (length text) })
  pub spells : IsGrammar placed raw

-- the text does not read as a grammar
abbrev pub ReadsAsNone : List ℕ → Type 0
ReadsAsNone text = (raw : RawGrammar) → ReadsAsGrammar text raw → ⊥
