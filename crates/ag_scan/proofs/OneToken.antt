-- Characters begin with at most one token, and with none if they begin with a separator.
use Rattle.std.proofs.Common.{◌≡◌, ℕ, zero, suc, ◌<◌, true, false, List, [], ◌∷◌, ◌++◌, length, Option, Some, None}
use Rattle.std.proofs.Common.{MatchOption, slice_get, encode_utf8_all, refl, ap, sym, ◌∙◌, arith}
use Rattle.std.proofs.lemmas.Bool.Decides.{nat_tests}
use Rattle.std.proofs.lemmas.Str.{encode_ascii}
use Rattle.std.proofs.Math.Seq.{drop-append_seam, take-append_seam}
use Rattle.ag_grammar.specs.declared.grammar.Terminal.{Terminal}
use Rattle.ag_grammar.specs.declared.grammar.Terminal.TheVariants.{Literal, Class}
use Rattle.ag_grammar.specs.grammars.Accepted.{IsSeparator}
use Rattle.std.specs.List.{prefix_len}
use Rattle.ag_tokens.specs.Remaining.{BeginsNoSeparator}
use Rattle.ag_tokens.specs.Tokens.{is_separator}
use Rattle.ag_tokens.proofs.TokenLaws.{no_start}
use Rattle.ag_scan.specs.Cutting.{LeadingWord, IsLeadingToken}
use Rattle.ag_scan.specs.Words.{Vocabulary, IsClean, IsWordOfClass, IsWord, IsAnyWord, BeginsNone, LiteralWins, IsToken}
use Rattle.ag_scan.proofs.words.ClassWords.{one_class}
use Rattle.ag_scan.proofs.Listing.{word_some}

-- ---- no word begins with a separator

separator_is : (c : ℕ) → is_separator c ≡ true → IsSeparator c
separator_is c h = grind (arith, nat_tests)

class_plain : (k c : ℕ) (cs lex : List ℕ) → IsWordOfClass k (c ∷ cs) lex → is_separator c ≡ false
class_plain zero c cs lex is = grind (arith, nat_tests, no_start)
class_plain (suc zero) c cs lex is = grind (arith, nat_tests)
class_plain (suc (suc zero)) c cs lex (body, split, all, text) = let same : c ≡ 34 = cc in rw same refl
class_plain (suc (suc (suc k))) c cs lex is = absurd is

pub no_spaces : (cs : List ℕ) → BeginsNoSeparator cs → prefix_len is_separator cs ≡ 0
no_spaces cs plain = grind arith

same_prefixes : (xs ys us vs : List ℕ) → xs ++ us ≡ ys ++ vs → length xs ≡ length ys → (xs ≡ ys) × (us ≡ vs)
same_prefixes xs ys us vs e n =
    (cc (take-append_seam xs us, take-append_seam ys vs), cc (drop-append_seam xs us, drop-append_seam ys vs))

-- the word that was read is the token at the beginning; if it is `None`, no word begins there
abbrev pub IsWordIn : Vocabulary → List ℕ → Option LeadingWord → Type 0
IsWordIn v cs o = MatchOption o (BeginsNone (IsAnyWord v) cs) (λ f. IsLeadingToken v cs f)

module _ {v : Vocabulary} (clean : IsClean v) where
  plain_prefix : (t : Terminal) (c : ℕ) (cs lex : List ℕ) → IsWord v t (c ∷ cs) lex → is_separator c ≡ true → ⊥
  plain_prefix (Literal l) c cs lex is h =
      let small : c < 128 = grind (arith, nat_tests) in
      let first : slice_get (encode_utf8_all (c ∷ cs)) 0 ≡ Some c = rw (encode_ascii c small) refl in
      clean.plain l (encode_utf8_all (c ∷ cs)) is.0 0 c first (separator_is c h)
  plain_prefix (Class k) c cs lex is h = let plain = class_plain k c cs lex is.1 in cc

  -- characters that begin with a token do not begin with a separator
  pub token_plain : (cs : List ℕ) {t : Terminal} {lex : List ℕ} (w : List ℕ) {rest : List ℕ} → cs ≡ w ++ rest
      → IsToken v t lex w rest → BeginsNoSeparator cs
  token_plain [] w split is = tt
  token_plain (c ∷ cs) {t} {lex} [] split is = absurd (omega (arith, word_some v t [] lex clean.some is.is))
  token_plain (c ∷ cs) {t} {lex} (d ∷ w) split is =
      let same : d ≡ c = cc in
      let not : is_separator c ≡ true → ⊥ = λ h. plain_prefix t d w lex is.is (rw same h) in
      grind (arith, not)

  -- ---- a word has one kind and one text

  one_kind : (t u : Terminal) (cs lex lex' : List ℕ) → IsWord v t cs lex → LiteralWins v t cs → IsWord v u cs lex'
      → LiteralWins v u cs → (t ≡ u) × (lex ≡ lex')
  one_kind (Literal l) (Literal m) cs lex lex' a wins b wins' =
      (ap Literal (clean.differ l m (encode_utf8_all cs) (encode_utf8_all cs) a.0 b.0 refl), a.1 ∙ sym b.1)
  one_kind (Literal l) (Class d) cs lex lex' a wins b wins' = absurd (wins' (l, a.0))
  one_kind (Class c) (Literal m) cs lex lex' a wins b wins' = absurd (wins (m, b.0))
  one_kind (Class c) (Class d) cs lex lex' a wins b wins' = one_class v.classes cs lex lex' c d a.0 b.0 a.1 b.1

  pub one_word : (cs : List ℕ) (o p : Option LeadingWord) → IsWordIn v cs o → IsWordIn v cs p → o ≡ p
  one_word cs None None none none' = refl
  one_word cs None (Some g) none b = absurd (none b.word g.rest b.split (g.kind, g.lex, b.token.is))
  one_word cs (Some f) None a none = absurd (none a.word f.rest a.split (f.kind, f.lex, a.token.is))
  one_word cs (Some f) (Some g) a b =
      let both = sym a.split ∙ b.split in
      let less = a.token.longest b.word g.rest both (g.kind, g.lex, b.token.is) in
      let more = b.token.longest a.word f.rest (sym both) (f.kind, f.lex, a.token.is) in
      let same = same_prefixes a.word b.word f.rest g.rest both (omega arith) in
      let kind =
      one_kind f.kind g.kind b.word f.lex g.lex (rw same.0 at a.token.is) (rw same.0 at a.token.tie) b.token.is b.token.tie in
      λ i. Some (record { kind = kind.0 i; lex = kind.1 i; rest = same.1 i })
