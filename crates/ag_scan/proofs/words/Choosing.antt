-- The word that is the token.
use Rattle.std.proofs.Common.{◌≡◌, ℕ, ◌+◌, ◌<◌, ◌≤◌, Bool, true, false, cond, nat_lt, List, [], ◌∷◌, ◌++◌, length, Option, Some}
use Rattle.std.proofs.Common.{None, refl, arith, option_map, MatchOption}
use Rattle.std.proofs.lemmas.Str.{len_utf8_bounds}
use Rattle.ag_grammar.specs.declared.grammar.Terminal.TheVariants.{Literal, Class}
use Rattle.ag_tokens.specs.Tokens.{width}
use Rattle.ag_tokens.proofs.Lexed.{width-append}
use Rattle.ag_scan.specs.Words.{Vocabulary, IsLiteral, IsClassWord, IsAnyWord, IsLongest, BeginsNone}
use Rattle.ag_scan.specs.declared.prefix.LeadingWord as code
use Rattle.ag_scan.specs.Cutting.{LeadingWord, IsLeadingLiteral, IsLeadingToken, leading_word_of, class_from, longer_of}
use Rattle.ag_scan.proofs.words.ClassWords.{IsLeadingClassWord, class_cut, class_none}
use Rattle.ag_scan.proofs.OneToken.{IsWordIn}
use Rattle.std.proofs.lemmas.Bool.Decides.{nat_tests}

-- of two prefixes of a text, the shorter one is not wider
no_wider : (xs ys us vs : List ℕ) → xs ++ us ≡ ys ++ vs → length xs ≤ length ys → width xs ≤ width ys
no_wider [] ys us vs e h = omega arith
no_wider (x ∷ xs) [] us vs e h = absurd (omega arith)
no_wider (x ∷ xs) (y ∷ ys) us vs e h = let more = no_wider xs ys us vs in grind arith

-- of two prefixes of a text, the narrower one is not longer
pub no_longer : (xs ys us vs : List ℕ) → xs ++ us ≡ ys ++ vs → width xs ≤ width ys → length xs ≤ length ys
no_longer [] ys us vs e h = omega arith
no_longer (x ∷ xs) [] us vs e h = absurd (omega (arith, (len_utf8_bounds x).0))
no_longer (x ∷ xs) (y ∷ ys) us vs e h = let more = no_longer xs ys us vs in grind arith

-- the result of the search: the longest literal at the beginning, or `None` if no literal begins there
abbrev pub IsLiteralIn : List (List ℕ) → List ℕ → Option LeadingWord → Type 0
IsLiteralIn literals cs o = MatchOption o (BeginsNone (IsLiteral literals) cs) (λ f. IsLeadingLiteral literals cs f)

module _ (v : Vocabulary) (cs : List ℕ) where
  no_word : BeginsNone (IsLiteral v.literals) cs → BeginsNone (IsClassWord v.classes) cs → BeginsNone (IsAnyWord v) cs
  no_word none no_class word more split (Literal l, lex, is) = none word more split (l, is.0)
  no_word none no_class word more split (Class c, lex, is) = no_class word more split (c, lex, is.0, is.1)

  -- a word of a class is the token if each literal at the beginning is shorter
  class_token : {f : LeadingWord} (cut : IsLeadingClassWord v.classes cs f)
      → ((word more : List ℕ) → cs ≡ word ++ more → IsLiteral v.literals word → length word < length cut.word)
      → IsLeadingToken v cs f
  class_token {f} cut less =
      record {
        word = cut.word;
        split = cut.split;
        token = rw cut.kind (record { is = (cut.used, cut.is); longest = longest; tie = tie });
      }
    where
      longest : IsLongest (IsAnyWord v) cut.word f.rest
      longest longer more same (Literal l, lex, is) = omega (arith, less longer more (cc) (l, is.0))
      longest longer more same (Class c, lex, is) = cut.longest longer more same (c, lex, is.0, is.1)

      tie : IsLiteral v.literals cut.word → ⊥
      tie is = omega (arith, less cut.word f.rest cut.split is)

  -- a literal is the token if no word of a class at the beginning is longer
  literal_token : {f : LeadingWord} (cut : IsLeadingLiteral v.literals cs f)
      → ((word more : List ℕ) → cs ≡ word ++ more → IsClassWord v.classes word → length word ≤ length cut.word)
      → IsLeadingToken v cs f
  literal_token {f} cut fit =
      record {
        word = cut.word;
        split = cut.split;
        token = rw cut.kind (record { is = (cut.there, cut.text); longest = longest; tie = tt });
      }
    where
      longest : IsLongest (IsAnyWord v) cut.word f.rest
      longest longer more same (Literal l, lex, is) = cut.longest longer more same (l, is.0)
      longest longer more same (Class c, lex, is) = fit longer more (cc) (c, lex, is.0, is.1)

  longer : {f g : LeadingWord} → IsLeadingLiteral v.literals cs f → IsLeadingClassWord v.classes cs g → (b : Bool)
      → nat_lt (width g.rest) (width f.rest) ≡ b → IsWordIn v cs (cond b (Some g) (Some f))
  longer {f} {g} literal class b h = go b h
    where
      both : class.word ++ g.rest ≡ literal.word ++ f.rest
      both = cc

      wide : width literal.word + width f.rest ≡ width class.word + width g.rest
      wide = cc (width-append literal.word f.rest, width-append class.word g.rest)

      go : (b : Bool) → nat_lt (width g.rest) (width f.rest) ≡ b → IsWordIn v cs (cond b (Some g) (Some f))
      go true h = class_token class (λ word more split is.
          (let fits = literal.longest word more (cc) is in
          let wider = no_wider class.word literal.word g.rest f.rest both in
          grind (arith, nat_tests, wide)))
      go false h = literal_token literal (λ word more split is.
          (let fits = class.longest word more (cc) is in
          let k = no_longer class.word literal.word g.rest f.rest both in
          grind (arith, nat_tests, wide)))

  -- the longer one of the literal and the word of a class is the token
  pub chosen : (a b : Option LeadingWord) → IsLiteralIn v.literals cs a → class_from v.classes cs ≡ b
      → IsWordIn v cs (longer_of a b)
  chosen None None none e = no_word none (class_none v.classes cs e)
  chosen None (Some g) none e =
      class_token (class_cut v.classes cs g e) (λ word more split is. absurd (none word more split is))
  chosen (Some f) None literal e =
      literal_token literal (λ word more split is. absurd (class_none v.classes cs e word more split is))
  chosen (Some f) (Some g) literal e = longer literal (class_cut v.classes cs g e) (nat_lt (width g.rest) (width f.rest)) refl

-- the same for a word of the code
pub lent_word : (v : Vocabulary) (cs : List ℕ) (o : Option code.LeadingWord)
    → IsWordIn v cs (option_map (λ f. leading_word_of f) o)
    → MatchOption o (BeginsNone (IsAnyWord v) cs) (λ f. IsLeadingToken v cs (leading_word_of f))
lent_word v cs None none = none
lent_word v cs (Some f) cut = cut
