-- The tokens that a reader returns one at a time are those of the text.
use Rattle.std.proofs.Common.{◌≡◌, ℕ, zero, suc, ◌+◌, ◌-◌, ◌≤◌, List, [], ◌∷◌, length, drop, Option, Some, None, IsUtf8}
use Rattle.std.proofs.Common.{slice_get, chars, option_map, refl, ap, sym, ◌∙◌, subst, arith}
use Rattle.std.proofs.Math.Seq.{drop-nil}
use Rattle.std.specs.List.{prefix_len}
use Rattle.ag_tokens.specs.Remaining.{after_separators}
use Rattle.ag_tokens.specs.Tokens.{is_separator, width}
use Rattle.ag_tokens.proofs.Lexed.{width-chars}
use Rattle.ag_scan.specs.Cutting.{LeadingWord, leading_word_of, tokens_in}
use Rattle.ag_scan.specs.declared.prefix.LeadingWord as code
use Rattle.ag_scan.specs.TokenReader.{IsScannable, IsLeadingWordOf, IsNextWordFrom, IsReaderState, last_offset, offset_at}
use Rattle.ag_scan.specs.Tokens.{Token}
use Rattle.ag_scan.specs.Words.{Vocabulary}
use Rattle.ag_scan.proofs.Cut.{begin_with, few_tokens}
use Rattle.ag_scan.proofs.OneToken.{IsWordIn}
use Rattle.ag_scan.proofs.Listing.{left_width}
use Rattle.ag_scan.proofs.Lefts.{following, there, ended}

-- the text after leading separators is not longer than the text
pub no_longer : (following left : List ℕ) → IsUtf8 following → IsUtf8 left → chars left ≡ after_separators (chars following)
    → length left ≤ length following
no_longer following left utf8 utf8' is = omega (arith, left_width (chars following) left utf8' is, width-chars following utf8)

-- the word after leading separators is that of the first of the tokens there
pub prefix_exact : {v : Vocabulary} {text : List ℕ} → IsScannable v text → (following left : List ℕ)
    → length following ≤ length text → IsUtf8 following → IsUtf8 left → chars left ≡ after_separators (chars following)
    → (o : Option LeadingWord) → IsWordIn v (chars left) o → IsNextWordFrom v text following o (length text - length left)
prefix_exact has following left within utf8 utf8' is None none ts are = begin_with has.clean are refl None (rw is at none)
prefix_exact {text = text} has following left within utf8 utf8' is (Some f) cut ts are =
    let (more, first, narrow, after) = begin_with has.clean are refl (Some f) (rw is at cut) in
    let w = width-chars following utf8 in
    let s = left_width (chars following) left utf8' is in
    let at : (length text - length following) + prefix_len is_separator (chars following) ≡ length text - length left =
    omega arith in
    let end : (length text - length following) + (width (chars following) - width f.rest) ≡ length text - width f.rest =
    omega arith in
    (more, first ∙ ap (λ n. record { kind = f.kind; lex = f.lex; at = n } ∷ more) at, omega arith, rw end at after)

-- ---- offsets

last_is : (ts : List Token) (i : ℕ) (t : Token) {more : List Token} → drop i ts ≡ t ∷ more → more ≡ [] → last_offset ts ≡ t.at
last_is ts zero t e none = ap last_offset (rw none at e)
last_is [] (suc i) t e none = absurd (cc)
last_is (u ∷ []) (suc i) t e none = absurd (cc (drop-nil {A = Token} i))
last_is (u ∷ w ∷ ts) (suc i) t e none = last_is (w ∷ ts) i t e none

-- the offset of the next token, or of the last one
offset_exact : (v : Vocabulary) (end : ℕ) (ts : List Token) (i at : ℕ) (o : Option LeadingWord)
    → IsLeadingWordOf v end (drop i ts) o at → (o ≡ None → at ≡ last_offset ts) → at ≡ offset_at ts i
offset_exact v end ts i at None none last = last refl ∙ rw ((ended ts i none).0, offset_at) refl
offset_exact v end ts i at (Some f) (more, first, narrow, are) last = rw (there ts i _ more first, offset_at) refl

-- the state at the beginning of a text
pub begins : {v : Vocabulary} {text : List ℕ} → IsScannable v text → {o : Option LeadingWord} {at : ℕ}
    → IsNextWordFrom v text text o at → (o ≡ None → at ≡ 0) → IsReaderState v text 0 o at
begins {v} {text} has {o} {at} exact end =
    let none : 0 ≡ length text - length text = omega arith in
    let left = exact (tokens_in v text) (rw (← none) has.tokens.tokens.are) in
    let last : o ≡ None → at ≡ last_offset (tokens_in v text) = λ none. end none ∙ sym (ap last_offset (rw none at left)) in
    record {
      has = has;
      within = omega arith;
      left = left;
      offset = offset_exact v (length text) (tokens_in v text) 0 at o left last;
    }

-- the state after the next token
pub goes_on : {v : Vocabulary} {text : List ℕ} {i : ℕ} {f : LeadingWord} {at : ℕ} (rest : List ℕ)
    → IsReaderState v text i (Some f) at → f.rest ≡ chars rest → IsUtf8 rest → {o : Option LeadingWord} {next : ℕ}
    → IsNextWordFrom v text rest o next → (o ≡ None → next ≡ at) → IsReaderState v text (i + 1) o next
goes_on {v} {text} {i} {f} {at} rest is same utf8 {o} {next} exact end =
    let (more, first, narrow, are) = is.left in
    let w : width f.rest ≡ length rest = ap width same ∙ width-chars rest utf8 in
    let (after, within) = following (tokens_in v text) i _ more first in
    let left = exact more (rw (w, same) at are) in
    let last : o ≡ None → next ≡ last_offset (tokens_in v text) =
    λ none. end none ∙ sym (last_is (tokens_in v text) i _ first (rw none at left)) in
    let following_it = subst (λ us. IsLeadingWordOf v (length text) us o next) (sym after) left in
    record {
      has = is.has;
      within = within;
      left = following_it;
      offset = offset_exact v (length text) (tokens_in v text) (i + 1) next o following_it last;
    }

-- the next token is the one with this index
pub is_next : {v : Vocabulary} {text : List ℕ} {i at : ℕ} {f : LeadingWord} → IsReaderState v text i (Some f) at
    → slice_get (tokens_in v text) i ≡ Some (record { kind = f.kind; lex = f.lex; at = at })
is_next {v} {text} {i} is = let (more, first, narrow, are) = is.left in there (tokens_in v text) i _ more first

pub none_next : {v : Vocabulary} {text : List ℕ} {i at : ℕ} → IsReaderState v text i None at
    → (slice_get (tokens_in v text) i ≡ None) × (length (tokens_in v text) ≤ i)
none_next {v} {text} {i} is = ended (tokens_in v text) i is.left

-- the number of tokens taken fits the counter
pub counted : {v : Vocabulary} {text : List ℕ} {i at : ℕ} {o : Option LeadingWord} → IsReaderState v text i o at
    → (length text ≤ 1048576) × (i ≤ length text)
counted {v} {text} is = (is.has.tokens.readable.short, omega (arith, is.within, few_tokens v text is.has))

-- an option of the code is `None` if the word of the specification that corresponds to it is `None`
pub none_there : (o : Option code.LeadingWord) → option_map (λ f. leading_word_of f) o ≡ None → o ≡ None
none_there None e = refl
none_there (Some f) e = absurd (cc)
