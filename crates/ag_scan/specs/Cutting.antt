-- The scanner as plain functions: the word at the beginning of characters (`word_from`), and all tokens of a text (`tokens_in`).
-- The clause `tokens` of `scan` says that the list `tokens_in` is right by the definition (`AreTokensOf`) for each sentence that
-- `scan` accepts. In this file 34 is the double quote, and the classes are 0 for NAME, 1 for NUMBER and 2 for TEXT.
use Rattle.std.specs.Prelude.{◌≡◌, ℕ, zero, suc, ◌+◌, ◌-◌, Bool, cond, nat_eq, nat_lt, ◌==◌, List, [], ◌∷◌, ◌++◌, length, take}
use Rattle.std.specs.Prelude.{drop, Option, Some, None, slice_get, chars, encode_utf8_all}
use Rattle.std.specs.Cmp.Lexicographic.{pointwise}
use Rattle.std.specs.Char.{is_ascii_digit}
use Rattle.std.specs.List.{prefix_len, list_any}
use Rattle.unicode_ident.specs.Ident.{is_xid_continue}
use Rattle.ag_grammar.specs.declared.grammar.Terminal.{Terminal}
use Rattle.ag_grammar.specs.declared.grammar.Terminal.TheVariants.{Literal, Class}
use Rattle.ag_tokens.specs.Remaining.{after_separators}
use Rattle.ag_tokens.specs.Tokens.{is_quotable, is_separator, starts_name, width}
use Rattle.ag_scan.specs.declared.prefix.LeadingWord as code
use Rattle.ag_scan.specs.Tokens.{Token}
use Rattle.ag_scan.specs.Words.{Vocabulary, IsLiteral, IsLongest, IsToken}

-- A word that was read: its terminal, its text (bytes), and the characters after it.
pub record LeadingWord : Type 0 where
  pub kind : Terminal
  pub lex : List ℕ
  pub rest : List ℕ

-- the longest prefix whose characters pass the test, and the characters after it
abbrev pub prefix_in : (ℕ → Bool) → List ℕ → List ℕ
prefix_in p cs = take (prefix_len p cs) cs

abbrev pub rest_after : (ℕ → Bool) → List ℕ → List ℕ
rest_after p cs = drop (prefix_len p cs) cs

-- the word of a class that is the longest prefix of characters that pass the test
abbrev pub span_from : (ℕ → Bool) → ℕ → List ℕ → LeadingWord
span_from p class cs = record { kind = Class class; lex = encode_utf8_all (prefix_in p cs); rest = rest_after p cs }

-- the TEXT with the text `body`, if the characters after the body begin with a quote
abbrev pub close_quote : List ℕ → List ℕ → Option LeadingWord
close_quote body [] = None
close_quote body (c ∷ cs) = cond (c == 34) (Some (record { kind = Class 2; lex = body; rest = cs })) None

-- the TEXT whose opening quote is directly before the characters; `None` if its closing quote is missing on the same line
abbrev pub text_from : List ℕ → Option LeadingWord
text_from cs = close_quote (encode_utf8_all (prefix_in is_quotable cs)) (rest_after is_quotable cs)

-- whether a class is one of those in use
abbrev pub uses : List ℕ → ℕ → Bool
uses classes k = list_any (λ d. d == k) classes

-- the word of a class in use at the beginning of the characters, if there is one
unfoldable pub class_from : List ℕ → List ℕ → Option LeadingWord
class_from classes [] = None
class_from classes (c ∷ cs) =
    cond (starts_name c) (cond (uses classes 0) (Some (span_from is_xid_continue 0 (c ∷ cs))) None)
    (cond (is_ascii_digit c) (cond (uses classes 1) (Some (span_from is_ascii_digit 1 (c ∷ cs))) None)
    (cond (c == 34) (cond (uses classes 2) (text_from cs) None) None))

-- the word of this file that represents a word of the code
abbrev pub leading_word_of : code.LeadingWord → LeadingWord
leading_word_of f = record { kind = f.kind; lex = f.lex.now; rest = chars f.rest.now }

-- The word is the longest literal at the beginning of the characters.
pub record IsLeadingLiteral (literals : List (List ℕ)) (cs : List ℕ) (f : LeadingWord) : Type 0 where
  pub number : ℕ
  pub word : List ℕ
  pub kind : f.kind ≡ Literal number
  pub split : cs ≡ word ++ f.rest
  pub there : slice_get literals number ≡ Some (encode_utf8_all word)
  pub text : f.lex ≡ encode_utf8_all word
  pub longest : IsLongest (IsLiteral literals) word f.rest

-- The word is the token at the beginning of the characters.
pub record IsLeadingToken (v : Vocabulary) (cs : List ℕ) (f : LeadingWord) : Type 0 where
  pub word : List ℕ
  pub split : cs ≡ word ++ f.rest
  pub token : IsToken v f.kind f.lex word f.rest

-- the number of the first literal in a list whose text is `text`, if there is one; the literals of the list are numbered from n
abbrev pub number_from : ℕ → List (List ℕ) → List ℕ → Option ℕ
number_from n [] text = None
number_from n (x ∷ xs) text = cond (pointwise nat_eq x text) (Some n) (number_from (n + 1) xs text)

-- the literal that consists of the first n of the characters cs, if there is one, and otherwise `other`
abbrev pub literal_or : List (List ℕ) → List ℕ → ℕ → Option LeadingWord → Option LeadingWord
literal_or literals cs n other =
    elim (number_from 0 literals (encode_utf8_all (take n cs)))
    [ Some l ↦ Some (record { kind = Literal l; lex = encode_utf8_all (take n cs); rest = drop n cs }) | None ↦ other ]

-- the longest literal of at most n characters at the beginning of the characters cs
abbrev pub literal_within : List (List ℕ) → List ℕ → ℕ → Option LeadingWord
literal_within literals cs zero = literal_or literals cs zero None
literal_within literals cs (suc n) = literal_or literals cs (suc n) (literal_within literals cs n)

-- the longer of a literal (the first argument) and a word of a class; the literal if they have the same length
abbrev pub longer_of : Option LeadingWord → Option LeadingWord → Option LeadingWord
longer_of None class = class
longer_of (Some f) None = Some f
longer_of (Some f) (Some g) = cond (nat_lt (width g.rest) (width f.rest)) (Some g) (Some f)

-- the longest word at the beginning of the characters
abbrev pub word_from : Vocabulary → List ℕ → Option LeadingWord
word_from v cs = longer_of (literal_within v.literals cs (length cs)) (class_from v.classes cs)

-- the first n tokens of the characters, which begin at the offset `at`; fewer than n if no word begins after some of them
abbrev pub tokens_from : Vocabulary → ℕ → ℕ → List ℕ → List Token
tokens_from v zero at cs = []
tokens_from v (suc n) at cs =
    elim (word_from v (after_separators cs)) [
      | Some f ↦ record { kind = f.kind; lex = f.lex; at = at + prefix_len is_separator cs } ∷ tokens_from v n
          (at + (width cs - width f.rest)) f.rest
      | None ↦ []
    ]

-- The tokens of a text, up to the first offset where no word begins. If no literal is empty, each token has at least
-- one byte, so there are at most `length text` tokens.
abbrev pub tokens_in : Vocabulary → List ℕ → List Token
tokens_in v text = tokens_from v (length text) 0 (chars text)
