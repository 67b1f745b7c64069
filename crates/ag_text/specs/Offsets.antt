-- The first token of a grammar's text that cannot be accepted (this project's).
use Rattle.std.specs.Prelude.{◌≡◌, ℕ, List, [], ◌∷◌, ◌++◌}
use Rattle.ag_tokens.specs.Ending.{Ending}
use Rattle.ag_tokens.specs.Ending as ending
use Rattle.ag_tokens.specs.PlacedToken.{PlacedToken, Input}
use Rattle.ag_grammar.specs.declared.raw.RawGrammar.{RawGrammar}
use Rattle.ag_tokens.specs.Parsing.{first_offset}
use Rattle.ag_text.specs.Syntax.{IsGrammar}

-- the tokens are a prefix of the text of a grammar
abbrev pub Begins : List PlacedToken → Type 0
Begins ps = (more : List PlacedToken) × (raw : RawGrammar) × IsGrammar (ps ++ more) raw

-- No grammar's text begins with the tokens `ps` and then the next token. If there is no next token because the
-- text ends, `ps` alone are not a grammar. If there is none for another reason (a character that begins no token, or
-- a token with a number or place above its limit), nothing is stated.
abbrev pub NoneGoesOn : List PlacedToken → Ending → List PlacedToken → Type 0
NoneGoesOn ps e [] = (at : ℕ) → e ≡ ending.EndsAt at → (raw : RawGrammar) → IsGrammar ps raw → ⊥
NoneGoesOn ps e (p ∷ rest) = Begins (ps ++ p ∷ []) → ⊥

-- The offset is that of the first token of `rest`, or the offset where the tokens end if `rest` is empty. The tokens
-- `before` are a prefix of the text of a grammar. If `rest` has a token, no grammar continues with this token. If the
-- text ends at the offset, the tokens `before` are not a grammar.
pub record IsFirstWrong (i : Input) (at : ℕ) : Type 0 where
  pub before : List PlacedToken
  pub rest : List PlacedToken
  pub cut : i.left ≡ before ++ rest
  pub start : Begins before
  pub says : at ≡ first_offset i.ending rest
  pub none : NoneGoesOn before i.ending rest
