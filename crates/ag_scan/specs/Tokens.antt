-- The definition of the tokens of a sentence, by longest match, and the reasons why a sentence has none. All
-- definitions are this project's.
use Rattle.std.specs.Prelude.{◌≡◌, ℕ, ◌+◌, ◌<◌, ◌≤◌, true, false, List, [], ◌∷◌, ◌++◌, length, Some, IsUtf8, chars, slice_get}
use Rattle.std.specs.Str.Lossy.{utf8_valid_len}
use Rattle.ag_grammar.specs.Lists.{Each, Has}
use Rattle.ag_grammar.specs.declared.grammar.Terminal.{Terminal}
use Rattle.ag_grammar.specs.declared.grammar.Terminal.TheVariants.{Literal, Class}
use Rattle.ag_grammar.specs.grammars.Accepted.{max_text_bytes}
use Rattle.ag_grammar.specs.grammars.Tree.{max_token_bytes, IsTokenText}
use Rattle.ag_tokens.specs.Tokens.{is_separator, width}
use Rattle.ag_scan.specs.Words.{Vocabulary, IsAnyWord, BeginsNone, IsToken}
use Rattle.ag_scan.specs.declared.fault.ScanFault.{ScanFault}
use Rattle.ag_scan.specs.declared.fault.ScanFault.TheVariants as fault

-- A token of a sentence: its terminal, its text, and the offset of its word in bytes from the beginning.
pub record Token : Type 0 where
  pub kind : Terminal
  pub lex : List ℕ
  pub at : ℕ

-- the maximum length of a sentence, in bytes: the same as that of the text of a grammar
abbrev pub max_sentence_bytes : ℕ
max_sentence_bytes = max_text_bytes

-- From the byte offset `at` up to the offset `end`, the characters are separators and the tokens `ts`, each
-- at its offset; `rest` are the characters after them.
pub data AreTokens (v : Vocabulary) : ℕ → List ℕ → List Token → ℕ → List ℕ → Type 0 where
  ended : (at : ℕ) (cs : List ℕ) → AreTokens v at cs [] at cs
  separator : (at c : ℕ) (cs : List ℕ) (ts : List Token) (end : ℕ) (rest : List ℕ) → is_separator c ≡ true
      → AreTokens v (at + 1) cs ts end rest → AreTokens v at (c ∷ cs) ts end rest
  word : (at : ℕ) (all word cs lex : List ℕ) (t : Terminal) (ts : List Token) (end : ℕ) (rest : List ℕ) → all ≡ word ++ cs
      → IsToken v t lex word cs → AreTokens v (at + width word) cs ts end rest
      → AreTokens v at all (record { kind = t; lex = lex; at = at } ∷ ts) end rest

-- the text of each token has at most 65,535 bytes
abbrev pub AreShort : List Token → Type 0
AreShort ts = Each (λ t. length t.lex ≤ max_token_bytes) ts

-- The tokens `ts`, each with a text of at most 65,535 bytes, and separators extend from the beginning of the
-- characters `cs` up to the offset `at`, where `rest` begins.
pub record Reaches (v : Vocabulary) (cs : List ℕ) (ts : List Token) (at : ℕ) (rest : List ℕ) : Type 0 where
  pub are : AreTokens v 0 cs ts at rest
  pub short : AreShort ts

-- Tokens and separators extend up to the offset `at`, as in `Reaches`. There is a character there that is not a separator and
-- begins no word.
pub record NoTokenAt (v : Vocabulary) (cs : List ℕ) (at : ℕ) : Type 0 where
  pub before : List Token
  pub first : ℕ
  pub rest : List ℕ
  pub reaches : Reaches v cs before at (first ∷ rest)
  pub no_separator : is_separator first ≡ false
  pub no_word : BeginsNone (IsAnyWord v) (first ∷ rest)

-- Tokens and separators extend up to the offset `at`, as in `Reaches`. A token begins there whose text is too long.
pub record LongTokenAt (v : Vocabulary) (cs : List ℕ) (at : ℕ) : Type 0 where
  pub before : List Token
  pub kind : Terminal
  pub lex : List ℕ
  pub word : List ℕ
  pub rest : List ℕ
  pub reaches : Reaches v cs before at (word ++ rest)
  pub token : IsToken v kind lex word rest
  pub long : max_token_bytes < length lex

-- The bytes are UTF-8, and their number is within the limit for sentences.
pub record IsReadable (sentence : List ℕ) : Type 0 where
  pub short : length sentence ≤ max_sentence_bytes
  pub utf8 : IsUtf8 sentence

-- The tokens of the sentence are ts.
pub record AreTokensOf (v : Vocabulary) (sentence : List ℕ) (ts : List Token) : Type 0 where
  pub readable : IsReadable sentence
  pub tokens : Reaches v (chars sentence) ts (length sentence) []

-- The reason why the sentence cannot be cut into tokens: it is too long; else it is not UTF-8, and `at` is the
-- offset of the first invalid byte; else, from left to right, no word begins at the offset `at`, or the text
-- of the token there is too long. `NoMemory` states nothing about the sentence.
abbrev pub IsRefused : Vocabulary → List ℕ → ScanFault → Type 0
IsRefused v sentence fault.TooLong = max_sentence_bytes < length sentence
IsRefused v sentence (fault.BadUtf8 at) =
    (length sentence ≤ max_sentence_bytes) × (IsUtf8 sentence → ⊥) × (at ≡ utf8_valid_len sentence)
IsRefused v sentence (fault.NoToken at) = IsReadable sentence × NoTokenAt v (chars sentence) at
IsRefused v sentence (fault.LongToken at) = IsReadable sentence × LongTokenAt v (chars sentence) at
IsRefused v sentence fault.NoMemory = Unit {0}

-- A token of the vocabulary: the number of a literal with the literal's text, or a class in use with a UTF-8 text of
-- at most 65,535 bytes.
abbrev pub IsTokenOf : Vocabulary → Terminal → List ℕ → Type 0
IsTokenOf v (Literal l) lex = slice_get v.literals l ≡ Some lex
IsTokenOf v (Class c) lex = Has v.classes c × IsTokenText lex

-- each token belongs to the vocabulary
abbrev pub FitAll : Vocabulary → List Token → Type 0
FitAll v ts = Each (λ t. IsTokenOf v t.kind t.lex) ts

-- The characters begin with the token t, whose offset is `at`, and `rest` are the characters after it.
pub record TakesToken (v : Vocabulary) (cs : List ℕ) (at : ℕ) (t : Token) (rest : List ℕ) : Type 0 where
  pub word : List ℕ
  pub split : cs ≡ word ++ rest
  pub token : IsToken v t.kind t.lex word rest
  pub offset : t.at ≡ at
  pub short : length t.lex ≤ max_token_bytes
  pub fits : IsTokenOf v t.kind t.lex

-- The characters begin with a token whose text is too long.
pub record HasLongToken (v : Vocabulary) (cs : List ℕ) : Type 0 where
  pub kind : Terminal
  pub lex : List ℕ
  pub word : List ℕ
  pub rest : List ℕ
  pub split : cs ≡ word ++ rest
  pub token : IsToken v kind lex word rest
  pub long : max_token_bytes < length lex

-- the reason why no token can be read at the beginning of the characters, which is at the offset `at`
abbrev pub IsStopped : Vocabulary → List ℕ → ℕ → ScanFault → Type 0
IsStopped v cs at fault.TooLong = ⊥
IsStopped v cs at (fault.BadUtf8 k) = ⊥
IsStopped v cs at (fault.NoToken k) = (k ≡ at) × BeginsNone (IsAnyWord v) cs
IsStopped v cs at (fault.LongToken k) = (k ≡ at) × HasLongToken v cs
IsStopped v cs at fault.NoMemory = Unit {0}
