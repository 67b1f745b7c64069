-- The rest of a text while it is read from left to right: the remaining tokens, and their ending. All
-- definitions are this project's.
use Rattle.std.specs.Prelude.{◌≡◌, ℕ, zero, suc, ◌-◌, ◌≤◌, false, cond, List, [], ◌∷◌, drop, length, Option, Some, None, Result}
use Rattle.std.specs.Prelude.{chars}
use Rattle.std.specs.Borrow.{Bor}
use Rattle.std.specs.List.{prefix_len}
use Rattle.ag_tokens.specs.GrammarToken.{GrammarToken}
use Rattle.ag_tokens.specs.Ending.{Ending}
use Rattle.ag_tokens.specs.Ending as ending
use Rattle.ag_tokens.specs.PlacedToken.{Input}
use Rattle.ag_tokens.specs.declared.token.GrammarToken as lent
use Rattle.ag_tokens.specs.declared.fault.TokenFault.{TokenFault}
use Rattle.ag_tokens.specs.declared.fault.TokenFault.TheVariants as token_fault
use Rattle.ag_tokens.specs.Lexing.{token_from, AgreesOnToken}
use Rattle.ag_tokens.specs.Tokens.{is_separator, is_within, width}

-- the characters do not begin with a separator
abbrev pub BeginsNoSeparator : List ℕ → Type 0
BeginsNoSeparator [] = Unit {0}
BeginsNoSeparator (c ∷ cs) = is_separator c ≡ false

-- the characters after the leading separators
abbrev pub after_separators : List ℕ → List ℕ
after_separators cs = drop (prefix_len is_separator cs) cs

-- the input with no token and this ending
abbrev pub without_tokens : Ending → Input
without_tokens e = record { left = []; ending = e }

-- the input with one more token before the others, at the offset `at`
abbrev pub with_token : ℕ → GrammarToken → Input → Input
with_token at t i = record i { left = record { at = at; token = t } ∷ i.left }

-- the ending at the offset `at`, for characters `cs` from there on that begin with no token and no separator
abbrev pub ending_at : ℕ → List ℕ → Ending
ending_at at [] = ending.EndsAt at
ending_at at (c ∷ cs) = ending.NoTokenAt at

-- the ending at the offset `at`, where the characters `cs` begin and the lexer fails with this fault
abbrev pub ending_by : TokenFault → ℕ → List ℕ → Ending
ending_by token_fault.Nothing at cs = ending_at at cs
ending_by token_fault.TooLarge at cs = ending.TooLargeAt at

-- The input from the offset `at` on, where the characters `cs` begin. The last argument is what the lexer reads there: a token
-- and the characters after it. `more` maps the characters from the next token on to their input.
abbrev pub input_by : (List ℕ → Input) → ℕ → List ℕ → Option (GrammarToken × List ℕ) → Input
input_by more at cs None = without_tokens (ending_at at cs)
input_by more at cs (Some p) =
    cond (is_within p.0) (with_token at p.0 (more (after_separators p.1))) (without_tokens (ending.TooLargeAt at))

-- The tokens of the last characters `cs` of a text of `len` bytes, and the ending. `cs` does not begin with a separator. `turns`
-- bounds the recursion: it must be greater than the number of tokens. That is so in `input`, since each token has a character.
unfoldable pub cut : ℕ → ℕ → List ℕ → Input
cut zero len cs = without_tokens (ending.EndsAt len)
cut (suc turns) len cs = input_by (cut turns len) (len - width cs) cs (token_from cs)

-- the tokens and the ending of the last characters `cs` of a text of `len` bytes; `cs` does not begin with a separator
unfoldable pub input : ℕ → List ℕ → Input
input len cs = cut (suc (length cs)) len cs

-- The state of a cursor, whose texts are bytes, is consistent: `leading` is the lexer's result for `rest`; `rest` has at most as
-- many bytes as the text; and the number of its bytes is the width of its characters. (What a cursor returns depends on `rest`
-- and on the text's length. So the invariant needn't say that `rest` is a suffix of the text.)
pub record IsReady (text rest : List ℕ) (leading : Result (lent.GrammarToken × Bor (List ℕ)) TokenFault) : Type 0 where
  pub lexed : AgreesOnToken leading (token_from (chars rest))
  pub fewer : length rest ≤ length text
  pub rest_wide : width (chars rest) ≡ length rest
