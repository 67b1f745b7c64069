-- The plain functions return the words and the tokens of the definitions.
use Rattle.std.proofs.Common.{◌==◌, ◌≡◌, ℕ, zero, suc, ◌+◌, ◌-◌, ◌≤◌, Bool, true, false, cond, nat_eq, List, [], ◌∷◌}
use Rattle.std.proofs.Common.{◌++◌, length, take, drop, Option, Some, None, MatchOption, slice_get, chars, encode_utf8_all, refl}
use Rattle.std.proofs.Common.{ap, sym, ◌∙◌, subst, arith}
use Rattle.std.proofs.lemmas.Bool.Decides.{nat_tests}
use Rattle.std.proofs.lemmas.List.{length-append, length-take-le, take-append-drop}
use Rattle.std.proofs.Math.Seq.{take-append_seam}
use Rattle.std.specs.Bool.{MatchBool}
use Rattle.std.specs.Cmp.Lexicographic.{pointwise, told_text}
use Rattle.std.specs.List.{prefix_len}
use Rattle.ag_grammar.specs.Lists.{Has}
use Rattle.ag_grammar.specs.declared.grammar.Terminal.TheVariants.{Literal}
use Rattle.ag_tokens.specs.Remaining.{after_separators}
use Rattle.ag_tokens.specs.Tokens.{is_separator, width}
use Rattle.ag_tokens.proofs.Lexed.{width-append, width-chars, separator_width}
use Rattle.ag_scan.specs.Cutting.{LeadingWord, IsLeadingLiteral, IsLeadingToken, number_from, literal_or, literal_within}
use Rattle.ag_scan.specs.Cutting.{word_from, tokens_from, tokens_in}
use Rattle.ag_scan.specs.TokenReader.{IsScannable}
use Rattle.ag_scan.specs.Tokens.{Token, AreTokens, ended, separator, word, IsReadable, AreTokensOf, FitAll}
use Rattle.ag_scan.specs.Words.{Vocabulary, HasNoEmpty, IsClean, IsLiteral}
use Rattle.ag_scan.proofs.words.Choosing.{IsLiteralIn, chosen}
use Rattle.ag_scan.proofs.Listing.{word_some, fewer_left, length_width, Scanned, ends}
use Rattle.ag_scan.proofs.OneToken.{IsWordIn, one_word, token_plain, no_spaces}
use Rattle.ag_scan.proofs.words.Tables.{split}

-- ---- the word at the beginning

-- the number of a text in a list whose texts are numbered from n on; `None` if the list does not have the text
abbrev IsNumberIn : ℕ → List (List ℕ) → List ℕ → Option ℕ → Type 0
IsNumberIn n xs x o = MatchOption o (Has xs x → ⊥) (λ l. (i : ℕ) × (l ≡ n + i) × (slice_get xs i ≡ Some x))

-- the number of a literal is found if there is one
numbered : (n : ℕ) (xs : List (List ℕ)) (x : List ℕ) → IsNumberIn n xs x (number_from n xs x)
numbered n [] x = λ h. cc h.1
numbered n (y ∷ ys) x =
    go (pointwise nat_eq y x) (told_text y x (pointwise nat_eq y x) refl) (number_from (n + 1) ys x) (numbered (n + 1) ys x)
  where
    other : (y ≡ x → ⊥) → (Has ys x → ⊥) → (i : ℕ) → slice_get (y ∷ ys) i ≡ Some x → ⊥
    other apart none zero e = apart (cc)
    other apart none (suc i) e = none (i, e)

    go : (b : Bool) → MatchBool b (y ≡ x) (y ≡ x → ⊥) → (o : Option ℕ) → IsNumberIn (n + 1) ys x o
        → IsNumberIn n (y ∷ ys) x (cond b (Some n) o)
    go true same o more = (0, omega arith, ap Some same)
    go false apart None none = λ h. other apart none h.0 h.1
    go false apart (Some l) (i, e, at) = (suc i, omega arith, at)

-- no prefix of n or more characters is a literal
abbrev NoneFrom : List (List ℕ) → List ℕ → ℕ → Type 0
NoneFrom literals cs n = (w more : List ℕ) → cs ≡ w ++ more → n ≤ length w → IsLiteral literals w → ⊥

prefix_of_length : (cs w more : List ℕ) → cs ≡ w ++ more → take (length w) cs ≡ w
prefix_of_length cs w more split = cc (take-append_seam w more)

module _ (literals : List (List ℕ)) (cs : List ℕ) where
  found : (n l : ℕ) → n ≤ length cs → NoneFrom literals cs (n + 1) → slice_get literals l ≡ Some (encode_utf8_all (take n cs))
      → IsLeadingLiteral literals cs (record { kind = Literal l; lex = encode_utf8_all (take n cs); rest = drop n cs })
  found n l within none there =
      record {
        number = l;
        word = take n cs;
        kind = refl;
        split = sym (take-append-drop n cs);
        there = there;
        text = refl;
        longest = λ longer more same is.
            let len = length-take-le n cs within in
            split (length longer) (n + 1) (λ less. omega arith)
            (λ far. absurd (none longer more (cc (take-append-drop n cs)) far is));
      }

  -- if the first n characters are not a literal, and no longer prefix is one, then no prefix of n or more
  -- characters is
  none_from : (n : ℕ) → (Has literals (encode_utf8_all (take n cs)) → ⊥) → NoneFrom literals cs (n + 1) → NoneFrom literals cs n
  none_from n not none w more same le is = split n (length w)
      (λ far. none w more same (omega arith) is)
      (λ least. (let whole : length w ≡ n = omega arith in not (rw (← prefix_of_length cs w more same, whole) at is)))

  or_else : (n : ℕ) → n ≤ length cs → NoneFrom literals cs (n + 1) → (other : Option LeadingWord)
      → ((Has literals (encode_utf8_all (take n cs)) → ⊥) → IsLiteralIn literals cs other)
      → IsLiteralIn literals cs (literal_or literals cs n other)
  or_else n within none other more =
      go (number_from 0 literals (encode_utf8_all (take n cs))) refl (numbered 0 literals (encode_utf8_all (take n cs)))
    where
      go : (o : Option ℕ) → number_from 0 literals (encode_utf8_all (take n cs)) ≡ o
          → IsNumberIn 0 literals (encode_utf8_all (take n cs)) o → IsLiteralIn literals cs (literal_or literals cs n other)
      go None none_there not = rw (literal_or, none_there) (more not)
      go (Some l) there (i, e, at) = let same : i ≡ l = omega (arith, e) in
          rw (literal_or, there) (found n l within none (rw same at at))

  literal_is : (n : ℕ) → n ≤ length cs → NoneFrom literals cs (n + 1) → IsLiteralIn literals cs (literal_within literals cs n)
  literal_is zero within none =
      or_else zero within none None (λ not w more same is. none_from zero not none w more same (omega arith) is)
  literal_is (suc n) within none =
      or_else (suc n) within none (literal_within literals cs n)
      (λ not. literal_is n (omega arith) (λ w more same far is. none_from (suc n) not none w more same (omega arith) is))

pub word_is : (v : Vocabulary) (cs : List ℕ) → IsWordIn v cs (word_from v cs)
word_is v cs =
    chosen v cs _ _
    (literal_is v.literals cs (length cs) (omega arith)
    (λ w more split far is. absurd (omega (arith, ap length split, length-append w more)))) refl

-- ---- the tokens of a text

-- the token read at the beginning, and the tokens after it
pub one_more : {v : Vocabulary} {at : ℕ} {cs : List ℕ} {f : LeadingWord} {ts : List Token} {end : ℕ} {rest : List ℕ}
    → word_from v cs ≡ Some f → AreTokens v (at + (width cs - width f.rest)) f.rest ts end rest
    → AreTokens v at cs (record { kind = f.kind; lex = f.lex; at = at } ∷ ts) end rest
one_more {v} {at} {cs} {f} e are =
    let cut : IsLeadingToken v cs f = rw e at (word_is v cs) in
    let there : at + (width cs - width f.rest) ≡ at + width cut.word =
    omega (arith, ap width cut.split, width-append cut.word f.rest) in
    word _ _ _ _ _ _ _ _ _ cut.split cut.token (rw there at are)

-- each token has at least one character
pub fewer : {v : Vocabulary} {at : ℕ} {cs : List ℕ} {ts : List Token} {end : ℕ} {rest : List ℕ} → HasNoEmpty v.literals
    → AreTokens v at cs ts end rest → length ts ≤ length cs
fewer some (ended at cs) = omega arith
fewer some (separator at c cs ts end rest h are) = omega (arith, fewer some are)
fewer some (word at whole w cs lex t ts end rest split is are) =
    omega (arith, fewer some are, word_some _ t w lex some is.is, ap length split, length-append w cs)

-- the offset and the number of remaining bytes have the same sum before and after the tokens
pub as_wide : {v : Vocabulary} {at : ℕ} {cs : List ℕ} {ts : List Token} {end : ℕ} {rest : List ℕ} → AreTokens v at cs ts end rest
    → at + width cs ≡ end + width rest
as_wide (ended at cs) = refl
as_wide (separator at c cs ts end rest h are) = omega (arith, separator_width c h, as_wide are)
as_wide (word at whole w cs lex t ts end rest split is are) = omega (arith, as_wide are, ap width split, width-append w cs)

-- The tokens up to the end of a text begin with the word at its beginning, after the leading separators.
abbrev pub BeginWith : Vocabulary → ℕ → List ℕ → List Token → ℕ → Option LeadingWord → Type 0
BeginWith v at cs ts end None = ts ≡ []
BeginWith v at cs ts end (Some f) =
    (more : List Token) × (ts ≡ record { kind = f.kind; lex = f.lex; at = at + prefix_len is_separator cs } ∷ more)
    × (width f.rest ≤ width cs) × AreTokens v (at + (width cs - width f.rest)) f.rest more end []

module _ {v : Vocabulary} (clean : IsClean v) where
  separators : (c : ℕ) (cs : List ℕ) → is_separator c ≡ true → prefix_len is_separator (c ∷ cs) ≡ suc (prefix_len is_separator cs)
  separators c cs h = rw h (omega arith)

  pub begin_with : {at : ℕ} {cs : List ℕ} {ts : List Token} {end : ℕ} {rest : List ℕ} → AreTokens v at cs ts end rest → rest ≡ []
      → (o : Option LeadingWord) → IsWordIn v (after_separators cs) o → BeginWith v at cs ts end o
  begin_with (ended at cs) e None is = refl
  begin_with (ended at cs) e (Some f) is =
      absurd (omega (arith, fewer_left clean is, ap (λ xs. length (after_separators xs)) e))
  begin_with (separator at c cs ts end rest h are) e o is = go o (begin_with are e o (subst (λ xs. IsWordIn v xs o) same is))
    where
      same : after_separators (c ∷ cs) ≡ after_separators cs
      same = ap (λ n. drop n (c ∷ cs)) (separators c cs h)

      go : (o : Option LeadingWord) → BeginWith v (at + 1) cs ts end o → BeginWith v at (c ∷ cs) ts end o
      go None none = none
      go (Some f) (more, first, narrow, following) =
          let one = separator_width c h in
          let n : (at + 1) + prefix_len is_separator cs ≡ at + prefix_len is_separator (c ∷ cs) =
          omega (arith, separators c cs h) in
          let m : (at + 1) + (width cs - width f.rest) ≡ at + (width (c ∷ cs) - width f.rest) = omega arith in (
            more,
            first ∙ ap (λ k. record { kind = f.kind; lex = f.lex; at = k } ∷ more) n,
            omega arith,
            rw m at following,
          )
  begin_with (word at cs w following lex t ts end rest split token are) e o is =
      let none = no_spaces cs (token_plain clean cs w split token) in
      let first : o ≡ Some (record { kind = t; lex = lex; rest = following }) =
      one_word clean cs _ _ (rw none at is) (record { word = w; split = split; token = token }) in
      let wide : width cs ≡ width w + width following = ap width split ∙ width-append w following in
      let there : at + (width cs - width following) ≡ at + width w = omega arith in
      rw (first, none, there, ← e) (ts, ap (λ n. record { kind = t; lex = lex; at = n } ∷ ts) (omega arith), omega arith, are)

  agrees : (n at : ℕ) (cs : List ℕ) (ts : List Token) (end : ℕ) → AreTokens v at cs ts end [] → length ts ≤ n
      → tokens_from v n at cs ≡ ts
  agrees zero at cs [] end are few = refl
  agrees zero at cs (t ∷ ts) end are few = absurd (omega arith)
  agrees (suc n) at cs ts end are few =
      go (word_from v (after_separators cs)) refl
      (begin_with are refl (word_from v (after_separators cs)) (word_is v (after_separators cs))) (agrees n)
    where
      go : (o : Option LeadingWord) → word_from v (after_separators cs) ≡ o → BeginWith v at cs ts end o
          → ((at : ℕ) (cs : List ℕ) (ts : List Token) (end : ℕ) → AreTokens v at cs ts end [] → length ts ≤ n
          → tokens_from v n at cs ≡ ts) → tokens_from v (suc n) at cs ≡ ts
      go None e none recur = rw (tokens_from, e) (sym none)
      go (Some f) e (more, first, narrow, following) recur =
          rw (tokens_from, e)
          (cc (recur (at + (width cs - width f.rest)) f.rest more end following (omega (arith, ap length first))))

  -- a text has at most as many tokens as bytes
  few : (text : List ℕ) (ts : List Token) → AreTokensOf v text ts → length ts ≤ length text
  few text ts is = omega (arith, fewer clean.some is.tokens.are, length_width (chars text), width-chars text is.readable.utf8)

  -- the tokens of a text are those that the function returns
  are_cut : (text : List ℕ) (ts : List Token) → AreTokensOf v text ts → tokens_in v text ≡ ts
  are_cut text ts is = agrees (length text) 0 (chars text) ts (length text) is.tokens.are (few text ts is)

-- if a text has been scanned to its end, its tokens are those that the function returns
pub all_cut : {v : Vocabulary} → IsClean v → {text rest : List ℕ} → IsReadable text → Scanned v text rest
    → true ≡ (length rest == 0) → AreTokensOf v text (tokens_in v text) × FitAll v (tokens_in v text)
all_cut {v} clean {text} {rest} readable scanned test =
    let none : length rest ≡ 0 = grind (arith, nat_tests) in
    let (ts, are, fit) = ends readable scanned none in
    let same = are_cut clean text ts are in
    (subst (AreTokensOf v text) (sym same) are, subst (FitAll v) (sym same) fit)

pub few_tokens : (v : Vocabulary) (text : List ℕ) → IsScannable v text → length (tokens_in v text) ≤ length text
few_tokens v text has = few has.clean text (tokens_in v text) has.tokens
