-- A reader of the tokens of a sentence. All definitions are this project's.
use Rattle.std.specs.Prelude.{◌≡◌, ℕ, ◌-◌, ◌≤◌, List, [], ◌∷◌, length, drop, slice_get, Option, Some, None, chars}
use Rattle.ag_tokens.specs.Tokens.{width}
use Rattle.ag_scan.specs.Cutting.{LeadingWord, tokens_in}
use Rattle.ag_scan.specs.Tokens.{Token, AreTokens, AreTokensOf}
use Rattle.ag_scan.specs.Words.{Vocabulary, IsClean}
use Rattle.ag_scan.specs.declared.token.Token as code

-- the tokens of a sentence, and the number of those already taken
pub record TokenReader : Type 0 where
  pub list : List Token
  pub taken : ℕ

-- the reader of these tokens after i of them have been taken
abbrev pub reader_at : List Token → ℕ → TokenReader
reader_at ts i = record { list = ts; taken = i }

-- the token of the specification that corresponds to a token of the code
abbrev pub token_of : code.Token → Token
token_of t = record { kind = t.kind; lex = t.lex.now; at = t.at }

-- the offset of the last token; 0 for the empty list
abbrev pub last_offset : List Token → ℕ
last_offset [] = 0
last_offset (t ∷ []) = t.at
last_offset (t ∷ u ∷ ts) = last_offset (u ∷ ts)

-- the offset of the token with index i; from the end on, the offset of the last token
abbrev pub offset_at : List Token → ℕ → ℕ
offset_at ts i = elim (slice_get ts i) [ Some t ↦ t.at | None ↦ last_offset ts ]

-- The vocabulary is clean (`IsClean`), and the text consists of separators and tokens over it.
pub record IsScannable (v : Vocabulary) (text : List ℕ) : Type 0 where
  pub clean : IsClean v
  pub tokens : AreTokensOf v text (tokens_in v text)

-- The remaining tokens `left` begin with that of the word `next`, at the offset `at`, and extend to the end of a text of `end`
-- bytes. If `next` is `None`, no token remains.
abbrev pub IsLeadingWordOf : Vocabulary → ℕ → List Token → Option LeadingWord → ℕ → Type 0
IsLeadingWordOf v end left None at = left ≡ []
IsLeadingWordOf v end left (Some f) at =
    (more : List Token) × (left ≡ record { kind = f.kind; lex = f.lex; at = at } ∷ more) × (width f.rest ≤ end)
    × AreTokens v (end - width f.rest) f.rest more end []

-- If `following`, a suffix of the text, consists of tokens and separators, then `next` and `at` are the word and the offset of
-- the first of these tokens. Without tokens `next` is `None`. (`next_word` returns `next` and `at`.)
abbrev pub IsNextWordFrom : Vocabulary → List ℕ → List ℕ → Option LeadingWord → ℕ → Type 0
IsNextWordFrom v text following next at =
    (ts : List Token) → AreTokens v (length text - length following) (chars following) ts (length text) []
    → IsLeadingWordOf v (length text) ts next at

-- The state of a reader: `taken` tokens of the text have been taken, `next` is the word of the next token, and `at` the token's
-- offset. At the end `next` is `None`, and `at` is the offset of the last token (0 if there is none).
pub record IsReaderState (v : Vocabulary) (text : List ℕ) (taken : ℕ) (next : Option LeadingWord) (at : ℕ) : Type 0 where
  pub has : IsScannable v text
  pub within : taken ≤ length (tokens_in v text)
  pub left : IsLeadingWordOf v (length text) (drop taken (tokens_in v text)) next at
  pub offset : at ≡ offset_at (tokens_in v text) taken
