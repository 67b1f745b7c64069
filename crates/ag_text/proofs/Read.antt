-- The result of parsing a text is that of its tokens; and what follows for the text.
use Rattle.std.proofs.Common.{◌≡◌, ◌≢◌, ◌≤◌, ℕ, nat_lt, Bool, true, false, List, length, Result, Ok, Err, IfOk, IfErr, chars}
use Rattle.std.proofs.Common.{IsUtf8, refl, ap, sym, ◌∙◌, subst, arith}
use Rattle.std.proofs.lemmas.Bool.Decides.{nat_tests}
use Rattle.std.proofs.lemmas.Str.{IsUtf8-from_is_utf8, is_utf8-from_IsUtf8}
use Rattle.std.specs.Str.{is_utf8}
use Rattle.std.specs.Str.Lossy.{utf8_valid_len}
use Rattle.ag_expr.specs.declared.fault.ExprFault.TheVariants as expr
use Rattle.ag_tokens.specs.Ending.{Ending}
use Rattle.ag_tokens.specs.Ending as ending
use Rattle.ag_tokens.specs.PlacedToken.{PlacedToken, Input}
use Rattle.ag_tokens.specs.Parsing.{is_end}
use Rattle.ag_tokens.specs.Tokens.{Lexes, width}
use Rattle.ag_tokens.proofs.Lexed.{width-chars}
use Rattle.ag_tokens.proofs.Lexes.{ends_wide, one_input, same_input}
use Rattle.ag_text.specs.Answers.{fault_of, answer_of, read_text, line_of, IsRead, IsReadText, IsFirstOf, IsRefused}
use Rattle.ag_grammar.specs.grammars.Accepted.{max_text_bytes}
use Rattle.ag_text.specs.Grammar.{ReadsAsGrammar, ReadsAsNone}
use Rattle.ag_text.specs.Offsets.{IsFirstWrong}
use Rattle.ag_text.specs.Reading.{Outcome, grammar_of}
use Rattle.ag_text.specs.declared.fault.TextFault.{TextFault}
use Rattle.ag_text.specs.declared.fault.TextFault.TheVariants as fault
use Rattle.ag_grammar.specs.declared.raw.RawGrammar.{RawGrammar}
use Rattle.ag_text.specs.declared.stop.Stop.{Stop}
use Rattle.ag_text.specs.declared.stop.Stop.TheVariants as stop
use Rattle.ag_text.proofs.Agree.{whole_of, sound, complete, refuses_at_the_first}
use Rattle.ag_text.proofs.Grammars.{grammar_exact}

pub read_ok : (text : List ℕ) (j k : Input) (raw : RawGrammar) → Lexes 0 (chars text) j → grammar_of j ≡ Ok (raw, k)
    → IsReadText text (Ok raw)
read_ok text j k raw lexes read i one memory =
    ap (λ l. answer_of text (grammar_of l)) (same_input 0 (chars text) i j one lexes) ∙ ap (answer_of text) read

pub read_err : (text : List ℕ) (j : Input) (s : Stop) (f : TextFault) → f ≡ fault_of text s → Lexes 0 (chars text) j
    → (s ≢ stop.NoMemory → grammar_of j ≡ Err s) → IsReadText text (Err f)
read_err text j s f is lexes read i one memory =
    let other : s ≢ stop.NoMemory = λ e. memory (ap Err (is ∙ ap (fault_of text) e)) in
    ap (λ l. answer_of text (grammar_of l)) (same_input 0 (chars text) i j one lexes) ∙ ap (answer_of text) (read other)
    ∙ ap Err (sym is)

-- if the tokens end for another reason than the end of the text, no grammar is parsed
no_end : (e : Ending) (ps : List PlacedToken) (raw : RawGrammar) (j : Input) → ((qs : List PlacedToken) → is_end e qs ≡ false)
    → grammar_of (record { left = ps; ending = e }) ≡ Ok (raw, j) → ⊥
no_end e ps raw j never read =
    let i : Input = record { left = ps; ending = e } in
    let whole = whole_of i j raw read in
    let found = grammar_exact.sound i j raw whole.read in
    let same = found.1 in
    let ends = whole.ends in
    let open_end = never j.left in
    let bad : ⊥ = grind arith in bad

-- ---- for a whole text

pub is_read : (text : List ℕ) → IsUtf8 text → length text ≤ max_text_bytes → (r : Result RawGrammar TextFault) → IsReadText text r
    → IsRead text r
is_read text utf8 short r is i lexes memory = let valid = is_utf8-from_IsUtf8 text utf8 in let read = is i lexes memory in
    grind (arith, nat_tests)

reads_at : (text : List ℕ) → IsUtf8 text → length text ≤ max_text_bytes
    → (e : Ending) (ps : List PlacedToken) (raw : RawGrammar) (j : Input)
    → Lexes 0 (chars text) (record { left = ps; ending = e }) → grammar_of (record { left = ps; ending = e }) ≡ Ok (raw, j)
    → ReadsAsGrammar text raw
reads_at text utf8 short (ending.EndsAt n) ps raw j lexes read =
    let wide : n ≡ length text = omega (arith, ends_wide lexes.before, ap width lexes.stops, width-chars text utf8) in
    record {
      short = short;
      utf8 = utf8;
      placed = ps;
      lexes = subst (λ m. Lexes 0 (chars text) (record { left = ps; ending = ending.EndsAt m })) wide lexes;
      spells = sound n ps j raw read;
    }
reads_at text utf8 short e ps raw j lexes read = absurd (no_end e ps raw j (λ qs. refl) read)

answered_raw : (text : List ℕ) (o : Outcome RawGrammar) (raw : RawGrammar) → answer_of text o ≡ Ok raw
    → (j : Input) × (o ≡ Ok (raw, j))
answered_raw text (Ok (a, j)) raw h = (j, cc)
answered_raw text (Err s) raw h = let bad : ⊥ = cc in absurd bad

pub reads_of : (text : List ℕ) (r : Result RawGrammar TextFault) → IsRead text r → IfOk r (ReadsAsGrammar text)
reads_of text (Err f) is = tt
reads_of text (Ok raw) is =
    let input = one_input (chars text) in
    let all = is input.0 input.1 (λ e. cc) in
    let short : length text ≤ max_text_bytes = grind (arith, nat_tests) in
    let valid : is_utf8 text ≡ true = grind arith in
    let read = answered_raw text (grammar_of input.0) raw (grind arith) in
    reads_at text (IsUtf8-from_is_utf8 text valid) short input.0.ending input.0.left raw read.0 input.1 read.1

none_of : (text : List ℕ) (e : TextFault) → e ≢ fault.NoMemory → IsRead text (Err e) → ReadsAsNone text
none_of text e memory is raw reads =
    let all = is _ reads.lexes (λ q. memory cc) in
    let read = complete (length text) reads.placed raw reads.spells in
    let valid = is_utf8-from_IsUtf8 text reads.utf8 in
    let short = reads.short in
    let bad : ⊥ = grind (arith, nat_tests) in bad

pub refuses_of : (text : List ℕ) (r : Result RawGrammar TextFault) → IsRead text r → IfErr r (IsRefused text)
refuses_of text (Ok raw) is = tt
refuses_of text (Err fault.NoMemory) is = tt
refuses_of text (Err f) is = none_of text _ (λ e. cc) is

first_wrong : (text : List ℕ) (i : Input) (line at : ℕ) → read_text text i ≡ Err (fault.Unexpected line at)
    → IsFirstWrong i at × (line ≡ line_of text at)
first_wrong text i line at h = (refuses_at_the_first i at (grind arith), grind arith)

pub first_of : (text : List ℕ) (r : Result RawGrammar TextFault) → IsRead text r → IfErr r (IsFirstOf text)
first_of text (Err (fault.Unexpected line at)) is = λ i lexes. first_wrong text i line at (is i lexes (λ e. cc))
first_of text r is = tt

pub never_of : (text : List ℕ) (r : Result RawGrammar TextFault) → IsRead text r → IfErr r (λ e. e ≢ fault.Expr expr.NoMemory)
never_of text (Ok raw) is = tt
never_of text (Err f) is = λ e. let input = one_input (chars text) in let all = is input.0 input.1 (λ q. cc) in
    let bad : ⊥ = grind arith in bad

-- `IsReadText` holds for a text if it holds for an equal one
pub is_text : (text part : List ℕ) → part ≡ text → (r : Result RawGrammar TextFault) → IsReadText part r → IsReadText text r
is_text text part same r is = subst (λ t. IsReadText t r) same is

-- for a text that is not UTF-8, G1 is the result
pub bad_utf8 : (text : List ℕ) (at : ℕ) → (IsUtf8 text → ⊥) → at ≡ utf8_valid_len text → length text ≤ max_text_bytes
    → IsRead text (Err (fault.BadUtf8 at))
bad_utf8 text at bad there short i lexes memory = let none : is_utf8 text ≡ false = none (is_utf8 text) refl in
    let inside : nat_lt max_text_bytes (length text) ≡ false = grind (arith, nat_tests) in
    rw (inside, none) (ap (λ n. Err (fault.BadUtf8 n)) (sym there))
  where
    none : (b : Bool) → is_utf8 text ≡ b → b ≡ false
    none false e = refl
    none true e = absurd (bad (IsUtf8-from_is_utf8 text e))
