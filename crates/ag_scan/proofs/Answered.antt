-- The answer to each sentence, by a plain function.
use Rattle.std.proofs.Common.{◌≡◌, ℕ, zero, suc, ◌+◌, ◌-◌, ◌<◌, ◌≤◌, Bool, true, false, cond, nat_lt, List, [], ◌∷◌, ◌++◌, length}
use Rattle.std.proofs.Common.{drop, Option, Some, None, Result, Ok, Err, chars, refl, ap, ◌∙◌, arith}
use Rattle.std.proofs.lemmas.Bool.Decides.{nat_tests}
use Rattle.std.proofs.lemmas.List.{length-append, length-drop}
use Rattle.std.proofs.lemmas.Str.{is_utf8-from_IsUtf8, IsUtf8-from_is_utf8}
use Rattle.std.specs.List.{prefix_len}
use Rattle.std.specs.Str.{is_utf8}
use Rattle.std.specs.Str.Lossy.{utf8_valid_len}
use Rattle.ag_grammar.specs.grammars.Accepted.{IsAccepted}
use Rattle.ag_grammar.specs.grammars.AttributeGrammar.{Grammar}
use Rattle.ag_grammar.specs.grammars.Tree.{max_token_bytes}
use Rattle.ag_grammar.proofs.grammars.Members.{each_none, each_more}
use Rattle.ag_tokens.specs.Remaining.{BeginsNoSeparator, after_separators}
use Rattle.ag_tokens.specs.Tokens.{is_separator, width}
use Rattle.ag_tokens.proofs.Lexed.{width-append, width-chars, plain_after}
use Rattle.ag_scan.specs.Cutting.{word_from, LeadingWord, IsLeadingToken}
use Rattle.ag_scan.specs.Laws.{IsAnswer, AnAnswer}
use Rattle.ag_scan.specs.Tokens.{Token, max_sentence_bytes, AreTokens, ended, separator, word, AreShort, Reaches, IsReadable}
use Rattle.ag_scan.specs.Words.{Vocabulary, vocabulary_of, IsClean}
use Rattle.ag_scan.specs.declared.fault.ScanFault.{ScanFault}
use Rattle.ag_scan.specs.declared.fault.ScanFault.TheVariants as fault
use Rattle.ag_scan.proofs.Cut.{word_is, one_more, as_wide, fewer}
use Rattle.ag_scan.proofs.Listing.{word_some, fewer_left, spaced}
use Rattle.ag_scan.proofs.OneToken.{IsWordIn, one_word, token_plain, no_spaces}

-- ---- the tokens of a text up to the first fault

-- the word that was read; `None` if its text is too long for a token
abbrev short_of : Option LeadingWord → Option LeadingWord
short_of None = None
short_of (Some f) = cond (nat_lt max_token_bytes (length f.lex)) None (Some f)

-- The tokens read from an offset on, the offset where they end, and the characters after them.
record Taken : Type 0 where
  pub tokens : List Token
  pub end : ℕ
  pub rest : List ℕ

abbrev after_one : Token → Taken → Taken
after_one t taken = record { tokens = t ∷ taken.tokens; end = taken.end; rest = taken.rest }

-- the token at the beginning of the characters, at an offset, and the tokens read after it
abbrev taken_at : (ℕ → List ℕ → Taken) → Vocabulary → ℕ → List ℕ → Taken
taken_at more v at cs = elim (short_of (word_from v cs)) [
  | None ↦ record { tokens = []; end = at; rest = cs }
  | Some f ↦ after_one (record { kind = f.kind; lex = f.lex; at = at }) (more (at + (width cs - width f.rest)) f.rest)
]

-- the first n tokens from an offset on, or fewer if no more can be read
abbrev taken_from : Vocabulary → ℕ → ℕ → List ℕ → Taken
taken_from v zero at cs = record { tokens = []; end = at; rest = cs }
taken_from v (suc n) at cs = taken_at (taken_from v n) v (at + prefix_len is_separator cs) (after_separators cs)

-- The characters do not begin with a separator, and no token can be read at their beginning.
record IsEnd (v : Vocabulary) (cs : List ℕ) : Type 0 where
  pub plain : BeginsNoSeparator cs
  pub none : short_of (word_from v cs) ≡ None

-- The tokens read from an offset on are tokens of the text, none of them too long, and no more can be read
-- after them.
record AreTaken (v : Vocabulary) (at : ℕ) (cs : List ℕ) (t : Taken) : Type 0 where
  pub are : AreTokens v at cs t.tokens t.end t.rest
  pub short : AreShort t.tokens
  pub ends : IsEnd v t.rest

short_exact : (o : Option LeadingWord) (f : LeadingWord) → short_of o ≡ Some f → (o ≡ Some f) × (length f.lex ≤ max_token_bytes)
short_exact o f e = (grind (arith, nat_tests), grind (arith, nat_tests))

are_taken : {v : Vocabulary} → IsClean v → (n at : ℕ) (cs : List ℕ) → length cs < n → AreTaken v at cs (taken_from v n at cs)
are_taken clean zero at cs less = absurd (omega arith)
are_taken {v} clean (suc n) at cs less = go (short_of (word_from v (after_separators cs))) refl (are_taken clean n)
  where
    go : (o : Option LeadingWord) → short_of (word_from v (after_separators cs)) ≡ o
        → ((at : ℕ) (cs : List ℕ) → length cs < n → AreTaken v at cs (taken_from v n at cs))
        → AreTaken v at cs (taken_from v (suc n) at cs)
    go None e more =
        rw (taken_at, e)
        (record {
          are = spaced cs (ended _ _);
          short = each_none _;
          ends = record { plain = plain_after cs; none = e };
        })
    go (Some f) e more =
        let (first, short) = short_exact (word_from v (after_separators cs)) f e in
        let cut : IsLeadingToken v (after_separators cs) f = rw first at (word_is v (after_separators cs)) in
        let next =
        more (at + prefix_len is_separator cs + (width (after_separators cs) - width f.rest)) f.rest
        (omega (arith, fewer_left clean cut, length-drop (prefix_len is_separator cs) cs)) in
        rw (taken_at, e)
        (record {
          are = spaced cs (one_more first next.are);
          short = each_more _ _ _ short next.short;
          ends = next.ends;
        })

cut_is : {v : Vocabulary} → IsClean v → (cs : List ℕ) (o : Option LeadingWord) → IsWordIn v cs o → word_from v cs ≡ o
cut_is {v} clean cs o is = one_word clean cs (word_from v cs) o (word_is v cs) is

-- characters that do not begin with a separator begin with the next token
at_once : (v : Vocabulary) (n at : ℕ) (cs : List ℕ) → BeginsNoSeparator cs
    → taken_from v (suc n) at cs ≡ taken_at (taken_from v n) v at cs
at_once v n at cs plain =
    let none = no_spaces cs plain in
    let there : at + prefix_len is_separator cs ≡ at = omega (arith, none) in
    λ i. taken_at (taken_from v n) v (there i) (drop (none i) cs)

-- tokens that end where no more can be read are the tokens that `taken_from` returns
taken_is : {v : Vocabulary} → IsClean v → (n : ℕ) {at : ℕ} {cs : List ℕ} {ts : List Token} {end : ℕ} {rest : List ℕ}
    → AreTokens v at cs ts end rest → AreShort ts → IsEnd v rest → length ts < n
    → taken_from v n at cs ≡ record { tokens = ts; end = end; rest = rest }
taken_is clean zero are short ends less = absurd (omega arith)
taken_is {v} clean (suc n) (ended at cs) short ends less = at_once v n at cs ends.plain ∙ rw (taken_at, ends.none) refl
taken_is {v} clean (suc n) (separator at c cs ts end rest h are) short ends less =
    let more : prefix_len is_separator (c ∷ cs) ≡ suc (prefix_len is_separator cs) = rw h (omega arith) in
    let there : at + prefix_len is_separator (c ∷ cs) ≡ (at + 1) + prefix_len is_separator cs = omega (arith, more) in
    (λ i. taken_at (taken_from v n) v (there i) (drop (more i) (c ∷ cs))) ∙ taken_is clean (suc n) are short ends less
taken_is {v} clean (suc n) (word at cs w following lex t ts end rest split is are) short ends less =
    let first : word_from v cs ≡ Some (record { kind = t; lex = lex; rest = following }) =
    cut_is clean cs (Some _) (record { word = w; split = split; token = is }) in
    let brief : length lex ≤ max_token_bytes = short 0 _ refl in
    let not_long : nat_lt max_token_bytes (length lex) ≡ false = grind (arith, nat_tests) in
    let there : at + (width cs - width following) ≡ at + width w = omega (arith, ap width split, width-append w following) in
    let more = taken_is clean n are (λ i u e. short (suc i) u e) ends (omega arith) in
    at_once v n at cs (token_plain clean cs w split is)
    ∙ rw (taken_at, first, not_long, there) (ap (after_one (record { kind = t; lex = lex; at = at })) more)

-- ---- the answer

-- the answer if the tokens `ts` end at the offset `at`, before these characters; o is the word with which the characters begin
abbrev ended_by : List ℕ → Option LeadingWord → List Token → ℕ → Result (List Token) ScanFault
ended_by [] o ts at = Ok ts
ended_by (c ∷ cs) None ts at = Err (fault.NoToken at)
ended_by (c ∷ cs) (Some f) ts at = Err (fault.LongToken at)

abbrev answer_by : Vocabulary → Taken → Result (List Token) ScanFault
answer_by v t = ended_by t.rest (word_from v t.rest) t.tokens t.end

-- the answer to a sentence
abbrev pub answer_to : Vocabulary → List ℕ → Result (List Token) ScanFault
answer_to v s =
    cond (nat_lt max_sentence_bytes (length s)) (Err fault.TooLong)
    (cond (is_utf8 s) (answer_by v (taken_from v (suc (length (chars s))) 0 (chars s)))
    (Err (fault.BadUtf8 (utf8_valid_len s))))

answers : (v : Vocabulary) (s : List ℕ) → IsReadable s → (t : Taken) → AreTaken v 0 (chars s) t → IsAnswer v s (answer_by v t)
answers v s readable t taken = go t.rest taken.are taken.ends (word_from v t.rest) (word_is v t.rest) refl
  where
    go : (cs : List ℕ) → AreTokens v 0 (chars s) t.tokens t.end cs → IsEnd v cs → (o : Option LeadingWord) → IsWordIn v cs o
        → word_from v cs ≡ o → IsAnswer v s (ended_by cs o t.tokens t.end)
    go [] are ends o is e =
        let end : t.end ≡ length s = omega (arith, as_wide are, width-chars s readable.utf8) in
        record { readable = readable; tokens = record { are = rw end at are; short = taken.short } }
    go (c ∷ cs) are ends None none e = (
      readable,
      record {
        before = t.tokens;
        first = c;
        rest = cs;
        reaches = record { are = are; short = taken.short };
        no_separator = ends.plain;
        no_word = none;
      },
    )
    go (c ∷ cs) are ends (Some f) cut e =
        let long : max_token_bytes < length f.lex = let none = ends.none in grind (arith, nat_tests) in (
          readable,
          record {
            before = t.tokens;
            kind = f.kind;
            lex = f.lex;
            word = cut.word;
            rest = f.rest;
            reaches = record { are = rw cut.split at are; short = taken.short };
            token = cut.token;
            long = long;
          },
        )

-- the result of `answer_to` is an answer
answered : {v : Vocabulary} → IsClean v → (s : List ℕ) → IsAnswer v s (answer_to v s)
answered {v} clean s = go (nat_lt max_sentence_bytes (length s)) (is_utf8 s) refl refl
  where
    go : (long utf8 : Bool) → nat_lt max_sentence_bytes (length s) ≡ long → is_utf8 s ≡ utf8 → IsAnswer v s (answer_to v s)
    go true utf8 e f = rw e (grind (arith, nat_tests))
    go false false e f = rw (e, f) (grind (arith, nat_tests), λ is. cc (is_utf8-from_IsUtf8 s is), refl)
    go false true e f =
        rw (e, f)
        (answers v s (record { short = grind (arith, nat_tests); utf8 = IsUtf8-from_is_utf8 s f }) _
        (are_taken clean (suc (length (chars s))) 0 (chars s) (omega arith)))

pub accepted_clean : (g : Grammar) → IsAccepted g → IsClean (vocabulary_of g)
accepted_clean g is =
    record {
      some = λ i x e. (is.limits.literal_bytes i x e).0;
      plain = is.named.without_separators;
      differ = is.named.literals_differ;
    }

pub an_answer : AnAnswer
an_answer g accepted s = (answer_to (vocabulary_of g) s, answered (accepted_clean g accepted) s)

-- ---- there is only one answer

module _ {v : Vocabulary} (clean : IsClean v) (s : List ℕ) where
  reached : {ts : List Token} {end : ℕ} {rest : List ℕ} → IsReadable s → Reaches v (chars s) ts end rest → IsEnd v rest
      → answer_to v s ≡ ended_by rest (word_from v rest) ts end
  reached readable reaches ends =
      let short = readable.short in
      let not_far : nat_lt max_sentence_bytes (length s) ≡ false = grind (arith, nat_tests) in
      rw (not_far, is_utf8-from_IsUtf8 s readable.utf8)
      (ap (answer_by v)
      (taken_is clean (suc (length (chars s))) reaches.are reaches.short ends (omega (arith, fewer clean.some reaches.are))))

  no_word_left : word_from v [] ≡ None
  no_word_left =
      cut_is clean [] None (λ w more split is.
      absurd (omega (arith, word_some v is.0 w is.1 clean.some is.2, ap length split, length-append w more)))

  long_left : (cs : List ℕ) (f : LeadingWord) (ts : List Token) (at : ℕ) → IsLeadingToken v cs f
      → ended_by cs (Some f) ts at ≡ Err (fault.LongToken at)
  long_left [] f ts at cut = absurd (omega (arith, fewer_left clean cut))
  long_left (c ∷ cs) f ts at cut = refl

  -- each answer is the result of `answer_to`
  pub is_answer : (q : Result (List Token) ScanFault) → IsAnswer v s q → answer_to v s ≡ q
  is_answer (Ok ts) is = reached is.readable is.tokens (record { plain = tt; none = rw no_word_left refl })
  is_answer (Err fault.NoMemory) is = absurd is
  is_answer (Err fault.TooLong) is = let far : nat_lt max_sentence_bytes (length s) ≡ true = grind (arith, nat_tests) in
      rw far refl
  is_answer (Err (fault.BadUtf8 at)) (short, refused, there) =
      let not_far : nat_lt max_sentence_bytes (length s) ≡ false = grind (arith, nat_tests) in
      let no_text : is_utf8 s ≡ false = grind (arith, refused, IsUtf8-from_is_utf8 s) in
      rw (not_far, no_text, there) refl
  is_answer (Err (fault.NoToken at)) (readable, none) =
      let no_word : word_from v (none.first ∷ none.rest) ≡ None = cut_is clean (none.first ∷ none.rest) None none.no_word in
      reached readable none.reaches (record { plain = none.no_separator; none = rw no_word refl }) ∙ rw no_word refl
  is_answer (Err (fault.LongToken at)) (readable, long) =
      let f : LeadingWord = record { kind = long.kind; lex = long.lex; rest = long.rest } in
      let cut : IsLeadingToken v (long.word ++ long.rest) f = record { word = long.word; split = refl; token = long.token } in
      let first = cut_is clean (long.word ++ long.rest) (Some f) cut in
      let far = long.long in
      let is_long : nat_lt max_token_bytes (length long.lex) ≡ true = grind (arith, nat_tests) in
      let plain = token_plain clean _ long.word refl long.token in
      reached readable long.reaches (record { plain = plain; none = rw (first, is_long) refl })
      ∙ rw first (long_left (long.word ++ long.rest) f long.before at cut)
