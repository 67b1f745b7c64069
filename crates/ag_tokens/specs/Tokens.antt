-- The definition of the tokens of a text, by longest match (this project's language). In this file a text is the list of its
-- characters, and a character is its code point: 34 is a double quote, 36 `$`, 46 a dot, 92 a backslash and 95 `_`.
use Rattle.std.specs.Prelude.{◌≡◌, ℕ, ◌+◌, ◌<◌, ◌≤◌, pos, int_le, nat_le, Bool, true, false, not, cond, ◌||◌, ◌&&◌, ◌==◌, ◌≢◌}
use Rattle.std.specs.Prelude.{List, [], ◌∷◌, ◌++◌, length, Option, Some, None, encode_utf8, encode_utf8_all}
use Rattle.std.specs.Char.{is_ascii_digit, len_utf8}
use Rattle.std.specs.List.{list_all}
use Rattle.std.specs.Str.Parse.{digits_value}
use Rattle.unicode_ident.specs.Ident.{is_xid_start, is_xid_continue}
use Rattle.ag_tokens.specs.declared.token.Punctuation.{Punctuation}
use Rattle.ag_tokens.specs.declared.token.Punctuation.TheVariants as punctuation
use Rattle.ag_tokens.specs.GrammarToken.{GrammarToken}
use Rattle.ag_tokens.specs.GrammarToken as token
use Rattle.ag_tokens.specs.Ending.{Ending, offset_of}
use Rattle.ag_tokens.specs.Ending as ending
use Rattle.ag_tokens.specs.PlacedToken.{PlacedToken, Input}
use Rattle.ag_grammar.specs.declared.limits.TheConstants.{MAX_PLACE}

-- space, tab, CR and LF separate tokens
abbrev pub is_separator : ℕ → Bool
is_separator c = c == 32 || c == 9 || c == 13 || c == 10

-- a name starts with a character of Unicode's class XID_Start or with `_`
abbrev pub starts_name : ℕ → Bool
starts_name c = is_xid_start c || c == 95

-- the characters allowed between the quotes of a token of the class TEXT in a sentence: all but a double quote and LF (such a
-- token has no escapes)
abbrev pub is_quotable : ℕ → Bool
is_quotable c = not (c == 34 || c == 10)

-- one ASCII digit or more
abbrev pub IsDigits : List ℕ → Type 0
IsDigits word = (0 < length word) × (list_all is_ascii_digit word ≡ true)

-- a name: a start character, followed by characters of Unicode's class XID_Continue
abbrev pub IsName : List ℕ → Type 0
IsName [] = ⊥
IsName (c ∷ cs) = (starts_name c ≡ true) × (list_all is_xid_continue cs ≡ true)

-- the character that a backslash followed by c denotes, for c one of `"`, `\`, `n`, `t` and `r`
abbrev pub escaped : ℕ → Option ℕ
escaped c =
    cond (c == 34) (Some 34)
    (cond (c == 92) (Some 92) (cond (c == 110) (Some 10) (cond (c == 116) (Some 9) (cond (c == 114) (Some 13) None))))

-- the body of a text literal, and the bytes of the text that it denotes: a quote or a backslash appears only
-- in an escape, and any other character denotes itself
pub data IsBody : List ℕ → List ℕ → Type 0 where
  empty : IsBody [] []
  plain : (c : ℕ) (body bytes : List ℕ) → c ≢ 34 → c ≢ 92 → IsBody body bytes → IsBody (c ∷ body) (encode_utf8 c ++ bytes)
  escape : (c d : ℕ) (body bytes : List ℕ) → escaped c ≡ Some d → IsBody body bytes
      → IsBody (92 ∷ c ∷ body) (encode_utf8 d ++ bytes)

-- the characters of punctuation
abbrev pub punctuation_text : Punctuation → List ℕ
punctuation_text punctuation.Plus = 43 ∷ []
punctuation_text punctuation.Minus = 45 ∷ []
punctuation_text punctuation.Times = 42 ∷ []
punctuation_text punctuation.Join = 43 ∷ 43 ∷ []
punctuation_text punctuation.EqualEqual = 61 ∷ 61 ∷ []
punctuation_text punctuation.Less = 60 ∷ []
punctuation_text punctuation.Equal = 61 ∷ []
punctuation_text punctuation.Open = 40 ∷ []
punctuation_text punctuation.Close = 41 ∷ []
punctuation_text punctuation.OpenList = 91 ∷ []
punctuation_text punctuation.CloseList = 93 ∷ []
punctuation_text punctuation.OpenTable = 123 ∷ []
punctuation_text punctuation.CloseTable = 125 ∷ []
punctuation_text punctuation.Comma = 44 ∷ []
punctuation_text punctuation.Semicolon = 59 ∷ []

-- The word, a list of characters, is this token. Numbers and places may have any size here.
abbrev pub IsToken : List ℕ → GrammarToken → Type 0
IsToken word (token.Number n) = IsDigits word × (n ≡ pos (digits_value 10 word))
IsToken word (token.Text bytes) = (body : List ℕ) × (word ≡ 34 ∷ (body ++ 34 ∷ [])) × IsBody body bytes
IsToken word (token.Name bytes) = IsName word × (bytes ≡ encode_utf8_all word)
IsToken word (token.Occurrence place attr) =
    (digits : List ℕ) × (name : List ℕ) × (word ≡ 36 ∷ (digits ++ 46 ∷ name)) × IsDigits digits × IsName name
    × (place ≡ digits_value 10 digits) × (attr ≡ encode_utf8_all name)
IsToken word (token.Punctuation s) = word ≡ punctuation_text s

-- Each prefix of the characters `word ++ rest` that is a token is at most as long as `word`.
abbrev pub IsLongest : List ℕ → List ℕ → Type 0
IsLongest word rest = (longer more : List ℕ) (t : GrammarToken) → word ++ rest ≡ longer ++ more → IsToken longer t
    → length longer ≤ length word

-- no prefix of the characters is a token
abbrev pub BeginsNoToken : List ℕ → Type 0
BeginsNoToken cs = (word more : List ℕ) (t : GrammarToken) → cs ≡ word ++ more → IsToken word t → ⊥

-- the number of bytes of characters in UTF-8
abbrev pub width : List ℕ → ℕ
width [] = 0
width (c ∷ cs) = len_utf8 c + width cs

-- The characters `cs` begin at the byte offset `at`. From there up to the offset `end` they are separators and tokens. Each token
-- is the longest one at its offset. `placed` are these tokens with their offsets, and `rest` are the characters from `end` on.
pub data AreTokens : ℕ → List ℕ → List PlacedToken → ℕ → List ℕ → Type 0 where
  ended : (at : ℕ) (cs : List ℕ) → AreTokens at cs [] at cs
  separator : (at c : ℕ) (cs : List ℕ) (placed : List PlacedToken) (end : ℕ) (rest : List ℕ) → is_separator c ≡ true
      → AreTokens (at + 1) cs placed end rest → AreTokens at (c ∷ cs) placed end rest
  word : (at : ℕ) (all word cs : List ℕ) (t : GrammarToken) (placed : List PlacedToken) (end : ℕ) (rest : List ℕ)
      → all ≡ word ++ cs → IsToken word t → IsLongest word cs → AreTokens (at + width word) cs placed end rest
      → AreTokens at all (record { at = at; token = t } ∷ placed) end rest

-- The number or place of a token is within its limit: a number literal is at most 2^63 - 1, and a place at most 65,535. Other
-- tokens have neither.
abbrev pub is_within : GrammarToken → Bool
is_within (token.Number n) = int_le n (pos 9223372036854775807)
is_within (token.Occurrence place attr) = nat_le place MAX_PLACE
is_within _ = true

-- From the byte offset `from`, where the characters `cs` begin, whole tokens (each the longest at its offset) and separators
-- extend up to the offset `at`, where `rest` begins.
pub record Reaches (from : ℕ) (cs : List ℕ) (at : ℕ) (rest : List ℕ) : Type 0 where
  pub placed : List PlacedToken
  pub before : AreTokens from cs placed at rest

-- Whole tokens and separators extend up to the offset `at`. The character there is not a separator, and no token begins with it,
-- not even one whose number or place is above its limit.
pub record NoTokenAt (from : ℕ) (cs : List ℕ) (at : ℕ) : Type 0 where
  pub first : ℕ
  pub rest : List ℕ
  pub reaches : Reaches from cs at (first ∷ rest)
  pub no_separator : is_separator first ≡ false
  pub no_token : BeginsNoToken (first ∷ rest)

-- Whole tokens and separators extend up to the offset `at`. A token is there, the longest one, whose number or place may have any
-- size.
pub record AnyTokenAt (from : ℕ) (cs : List ℕ) (at : ℕ) : Type 0 where
  pub word : List ℕ
  pub token : GrammarToken
  pub rest : List ℕ
  pub reaches : Reaches from cs at (word ++ rest)
  pub is : IsToken word token
  pub longest : IsLongest word rest

-- At this offset there is a token whose number or place is above its limit.
abbrev pub TooLargeAt : ℕ → List ℕ → ℕ → Type 0
TooLargeAt from cs at = (there : AnyTokenAt from cs at) × (is_within there.token ≡ false)

-- At this offset there is a token whose number or place, if it has one, is within its limit.
abbrev pub TokenAt : ℕ → List ℕ → ℕ → Type 0
TokenAt from cs at = (there : AnyTokenAt from cs at) × (is_within there.token ≡ true)

-- Whole tokens and separators extend up to the offset `at`, where the characters end.
abbrev pub EndsAt : ℕ → List ℕ → ℕ → Type 0
EndsAt from cs at = Reaches from cs at []

-- The number or place of each token is within its limit.
abbrev pub all_within : List PlacedToken → Bool
all_within [] = true
all_within (p ∷ ps) = is_within p.token && all_within ps

-- the characters begin with a character that is not a separator and begins no token
abbrev pub HasNoToken : List ℕ → Type 0
HasNoToken [] = ⊥
HasNoToken (c ∷ cs) = (is_separator c ≡ false) × BeginsNoToken (c ∷ cs)

-- the characters begin with a token, the longest there, whose number or place is above its limit
pub record HasTooLarge (cs : List ℕ) : Type 0 where
  pub word : List ℕ
  pub token : GrammarToken
  pub following : List ℕ
  pub split : cs ≡ word ++ following
  pub is : IsToken word token
  pub longest : IsLongest word following
  pub large : is_within token ≡ false

-- The characters `rest`, which come after the tokens of a text, are what the ending says: none, some that begin with no token, or
-- some that begin with a token whose number or place is above its limit. The offset in the ending is not compared.
abbrev pub Stops : Ending → List ℕ → Type 0
Stops (ending.EndsAt at) rest = rest ≡ []
Stops (ending.NoTokenAt at) rest = HasNoToken rest
Stops (ending.TooLargeAt at) rest = HasTooLarge rest

-- The characters `cs`, which begin at the byte offset `from`, have the tokens and the ending of i, with their offsets. The number
-- or place of each token is within its limit.
pub record Lexes (from : ℕ) (cs : List ℕ) (i : Input) : Type 0 where
  pub rest : List ℕ
  pub before : AreTokens from cs i.left (offset_of i.ending) rest
  pub within : all_within i.left ≡ true
  pub stops : Stops i.ending rest
