-- The results are those of parsing the tokens of the text; and what follows for the text.
use Rattle.ag_expr.proofs.Common
use Common.{◌≡◌, ◌≢◌, ℕ, true, false, List, [], ◌∷◌, ◌++◌, length, Result, Ok, Err, IfOk, chars, drop, IsUtf8, inl, inr, refl, ap}
use Common.{sym, ◌∙◌, arith, append_assoc, append-nil, length-append, IsErrAnd, ExprFault, Node, Occ, Ending, offset_of}
use Common.{Expression}
use Common.{max_levels, ReadsAsExpr, IsRefused, IsFaultOf, IsFaultFrom, State, IsReadToEnd, start, all_occurrences}
use Common.{distinct_occurrences, PlacedToken, Input, tokens, is_end, AreTokens, Lexes}
use Common.fault
use Common.ending
use Rattle.std.proofs.Common.{IfErr}
use Rattle.ag_expr.specs.language.State.{input, complete_list}
use Rattle.ag_expr.specs.language.Offsets.{IsFirstOf, IsRead, IsReadFrom, IsReportedFirst, answer_of, occurrences_of, read_from}
use Rattle.ag_expr.specs.language.Reading.{Outcome, expr_from, expr_in, expr_of, ending_fault, refusal, refusal_of}
use Rattle.ag_expr.specs.language.Syntax.{IsExpr}
use Rattle.ag_tokens.specs.Tokens.{ended, separator, word, AnyTokenAt, Reaches, TokenAt, HasNoToken, width}
use Rattle.ag_tokens.specs.Tokens.{is_within}
use Rattle.ag_tokens.specs.Tokens.{all_within}
use Rattle.ag_expr.proofs.language.Agree.{whole_is, read_whole, read_to_end, read_of}
use Rattle.ag_tokens.proofs.Lexed.{width-chars}
use Rattle.ag_tokens.proofs.Lexes.{ends_wide, one_input, same_input}
use Rattle.ag_expr.proofs.language.Listing.{listed_are_different}
use Rattle.ag_expr.proofs.language.Offsets.{refuses_at_the_first}

abbrev pub Answer : Type 0
Answer = Result Expression ExprFault

-- the result of parsing the tokens of a text is the answer, since the text has no other tokens
pub read_to : (text : List ℕ) (from : ℕ) (j : Input) → Lexes from (chars (drop from text)) j
    → (r : Answer) → IsReadToEnd (start false j) r → IsReadFrom text from r
unfolding complete_list input
read_to text from j lexed r is i lexes memory =
    cc (same_input from (chars (drop from text)) i j lexes lexed, listed_are_different (all_occurrences j.left), is memory)

-- ---- the results of the parts of parsing

-- what holds for a fault holds for the result that passes it on
pub passed_on : {X : Type 0} (P : Result X ExprFault → Type 0) (r : Result X ExprFault) (e : ExprFault) → IsErrAnd r (λ x. x ≡ e)
    → P (Err e) → P r
passed_on P (Ok x) e is holds = absurd is
passed_on P (Err x) e is holds = rw is holds

module _ (s : State) where
  -- the case with no names in scope
  pub unnamed : s.scope ≡ [] → (o : Outcome Node) → expr_in (complete_list s) max_levels s.scope (input s) ≡ o
      → expr_from (complete_list s) max_levels (input s) ≡ o
  unnamed none o is = cc

  pub refused_within : (r : Answer) (e : ExprFault) → IsErrAnd r (λ x. x ≡ e)
      → (e ≢ fault.NoMemory → expr_from (complete_list s) max_levels (input s) ≡ Err e) → IsReadToEnd s r
  unfolding expr_of
  refused_within (Ok x) e is h = absurd is
  refused_within (Err x) e is h = λ memory. rw (h (λ q. memory (ap Err (is ∙ q)))) (ap Err (sym is))

  pub refused_after : (r : Answer) (e : ExprFault) (f : Node) (j : Input) → IsErrAnd r (λ x. x ≡ e)
      → expr_from (complete_list s) max_levels (input s) ≡ Ok (f, j) → is_end j.ending j.left ≡ false → e ≡ refusal j
      → IsReadToEnd s r
  unfolding expr_of
  refused_after (Ok x) e f j is read more says = absurd is
  refused_after (Err x) e f j is read more says = λ memory. rw (read, more) (ap Err (cc says))

  pub read_all : (f : Node) (j : Input) (listed : List Occ) → expr_from (complete_list s) max_levels (input s) ≡ Ok (f, j)
      → is_end j.ending j.left ≡ true → listed ≡ complete_list s → IsReadToEnd s (Ok (record { tree = f; occurrences = listed }))
  read_all f j listed read ends same =
      λ memory. cc (read_of (complete_list s) max_levels (input s) j f read ends)

-- ---- what follows for the text

answered_tree : (listed : List Occ) (o : Outcome Node) (x : Expression) → answer_of listed o ≡ Ok x
    → (j : Input) × (o ≡ Ok (x.tree, j)) × (x.occurrences ≡ listed)
answered_tree listed (Ok (e, j)) x h = (j, cc, cc)
answered_tree listed (Err f) x h = cc

answered_fault : (listed : List Occ) (o : Outcome Node) (e : ExprFault) → answer_of listed o ≡ Err e → o ≡ Err e
answered_fault listed o e h = grind arith

-- The tokens end with the text and spell the result.
pub record Spells (i : Input) (x : Expression) : Type 0 where
  pub at : ℕ
  pub ends : i.ending ≡ ending.EndsAt at
  pub listed : x.occurrences ≡ occurrences_of i
  pub spells : IsExpr (occurrences_of i) max_levels (tokens i.left) x.tree

pub spells_of : (i : Input) (x : Expression) → read_from i ≡ Ok x → Spells i x
spells_of i x is =
    let one = answered_tree (occurrences_of i) (expr_of (occurrences_of i) max_levels i) x is in
    let read = read_to_end (occurrences_of i) max_levels i one.0 x.tree one.1 in
    let all = whole_is (occurrences_of i) max_levels i one.0 x.tree read.0 read.1 in
    record { at = all.0; ends = all.1; listed = one.2; spells = all.2 }

-- the tokens of an expression are parsed to it
pub spelled_back : (placed : List PlacedToken) (at : ℕ) (x : Expression)
    → x.occurrences ≡ distinct_occurrences (all_occurrences placed) → IsExpr x.occurrences max_levels (tokens placed) x.tree
    → read_from (record { left = placed; ending = ending.EndsAt at }) ≡ Ok x
spelled_back placed at x listed spells =
    let i : Input = record { left = placed; ending = ending.EndsAt at } in
    ap (λ os. answer_of os (expr_of os max_levels i)) (sym listed)
    ∙ ap (answer_of x.occurrences) (read_whole x.occurrences max_levels at placed x.tree spells)

-- a fault of the parser is at the first token that cannot be accepted
pub reported_of : (i : Input) (e : ExprFault) → read_from i ≡ Err e → IsReportedFirst (occurrences_of i) max_levels i e
reported_of i e is =
    refuses_at_the_first (occurrences_of i) max_levels i e
    (answered_fault (occurrences_of i) (expr_of (occurrences_of i) max_levels i) e is)

module _ (text : List ℕ) where
  pub reads_as : (r : Answer) → IsUtf8 text → IsRead text r → IfOk r (ReadsAsExpr text)
  reads_as (Ok x) utf8 is =
      let (i, lexes, only) = one_input (chars text) in
      let s = spells_of i x (is i lexes (λ q. cc)) in
      let stops : lexes.rest ≡ [] = rw s.ends at lexes.stops in
      let wide : s.at ≡ length text =
      omega (arith, ends_wide lexes.before, ap width stops, ap offset_of s.ends, width-chars text utf8) in
      record { placed = i.left; lexes = rw (← wide, ← s.ends) lexes; listed = s.listed; spells = rw s.listed s.spells }
  reads_as (Err e) utf8 is = tt

  read_back : (x : Expression) (reads : ReadsAsExpr text x)
      → read_from (record { left = reads.placed; ending = ending.EndsAt (length text) }) ≡ Ok x
  read_back x reads = spelled_back reads.placed (length text) x reads.listed reads.spells

  pub refuses_of : (r : Answer) → IsRead text r → IfErr r (IsRefused text)
  refuses_of (Ok x) is = tt
  refuses_of (Err fault.NoMemory) is = tt
  refuses_of (Err e) is = λ x reads. let contradiction = sym (is _ reads.lexes (λ q. cc)) ∙ read_back x reads in cc

  pub first_of : (r : Answer) → IsRead text r → IfErr r (IsFirstOf text)
  first_of (Ok x) is = tt
  first_of (Err e) is = λ i lexes memory. reported_of i e (is i lexes (λ q. memory cc))

-- ---- the token at the offset of a fault

placed_inner : (us : List PlacedToken) (p : PlacedToken) (ps : List PlacedToken) → all_within (us ++ p ∷ ps) ≡ true
    → is_within p.token ≡ true
placed_inner [] p ps h = grind arith
placed_inner (u ∷ us) p ps h = let more = placed_inner us p ps in grind arith

-- the same token, with more characters before it
abbrev after : {from later at : ℕ} {cs ds : List ℕ} (there : AnyTokenAt later ds at)
    → Reaches from cs at (there.word ++ there.rest) → AnyTokenAt from cs at
after there reaches = record {
  word = there.word;
  token = there.token;
  rest = there.rest;
  reaches = reaches;
  is = there.is;
  longest = there.longest;
}

-- a token of the text is at its offset
token_at : {from : ℕ} {cs : List ℕ} {qs : List PlacedToken} {end : ℕ} {rest : List ℕ} → AreTokens from cs qs end rest
    → (us : List PlacedToken) (p : PlacedToken) (ps : List PlacedToken) → qs ≡ us ++ p ∷ ps
    → (there : AnyTokenAt from cs p.at) × (there.token ≡ p.token)
token_at (ended at cs) us p ps e = absurd (omega (arith, ap length e, length-append us (p ∷ ps)))
token_at (separator at c cs qs end rest h are) us p ps e =
    let (there, same) = token_at are us p ps e in
    (after there (record { placed = there.reaches.placed; before = separator at c cs _ _ _ h there.reaches.before }), same)
token_at (word at all w cs t qs end rest split is longest are) [] p ps e =
    let same : record { at = at; token = t } ≡ p = cc in
    rw (← same) (
      record {
        word = w;
        token = t;
        rest = cs;
        reaches = record { placed = []; before = rw (← split) (ended at all) };
        is = is;
        longest = longest;
      },
      refl,
    )
token_at (word at all w cs t qs end rest split is longest are) (u ∷ us) p ps e =
    let (there, same) = token_at are us p ps (cc) in (
      after there (record {
        placed = record { at = at; token = t } ∷ there.reaches.placed;
        before = word at all w cs t _ _ _ split is longest there.reaches.before;
      }),
      same,
    )

module _ (from : ℕ) (cs : List ℕ) (i : Input) (lexes : Lexes from cs i) where
  pub occurs_at : (us : List PlacedToken) (p : PlacedToken) (ps : List PlacedToken) → i.left ≡ us ++ p ∷ ps
      → (there : TokenAt from cs p.at) × (there.0.token ≡ p.token)
  occurs_at us p ps cut = let one = token_at lexes.before us p ps cut in
      ((one.0, cc (placed_inner us p ps (sym (ap all_within cut) ∙ lexes.within))), one.1)

  -- the ending of the tokens is at its offset
  pub ends_at : IsFaultFrom from cs (ending_fault i.ending)
  ends_at = go i.left i.ending lexes
    where
      go : (ps : List PlacedToken) (e : Ending) → Lexes from cs (record { left = ps; ending = e })
          → IsFaultFrom from cs (ending_fault e)
      go ps (ending.EndsAt at) is = inr (record { placed = ps; before = rw is.stops at is.before })
      go ps (ending.NoTokenAt at) is = by is.rest is.before is.stops
        where
          by : (rest : List ℕ) → AreTokens from cs ps at rest → HasNoToken rest → IsFaultFrom from cs (fault.NoToken at)
          by [] before none = absurd none
          by (c ∷ rest) before none = record {
            first = c;
            rest = rest;
            reaches = record { placed = ps; before = before };
            no_separator = none.0;
            no_token = none.1;
          }
      go ps (ending.TooLargeAt at) is =
          let t = is.stops in (
            record {
              word = t.word;
              token = t.token;
              rest = t.following;
              reaches = record { placed = ps; before = rw t.split at is.before };
              is = t.is;
              longest = t.longest;
            },
            t.large,
          )

  -- A fault for a prefix of the tokens is right about the text if the fault for the prefix's ending is right.
  pub reported_before : (part : Input) (following : List PlacedToken) → i.left ≡ part.left ++ following
      → IsFaultFrom from cs (ending_fault part.ending) → (listed : List Occ) (levels : ℕ) (f : ExprFault)
      → IsReportedFirst listed levels part f → IsFaultFrom from cs f
  reported_before part following cut ends listed levels f reported = elim reported [
    | inl w ↦ rw w.says (says w.before w.rest w.cut)
    | inr d ↦
        let one = occurs_at d.before d.first (d.rest ++ following) (further d.before (d.first ∷ d.rest) d.cut) in
        rw d.says (one.0, cc)
  ]
    where
      further : (us ps : List PlacedToken) → part.left ≡ us ++ ps → i.left ≡ us ++ (ps ++ following)
      further us ps here = cc (append_assoc us ps following)

      says : (us rest : List PlacedToken) → part.left ≡ us ++ rest → IsFaultFrom from cs (refusal_of part.ending rest)
      says us [] here = ends
      says us (p ∷ ps) here = inl (occurs_at us p (ps ++ following) (further us (p ∷ ps) here)).0

  -- and the same for all tokens
  pub reported_at : (listed : List Occ) (levels : ℕ) (f : ExprFault) → IsReportedFirst listed levels i f → IsFaultFrom from cs f
  reported_at = reported_before i [] (sym (append-nil i.left)) ends_at

-- the fault `NoMemory` states nothing
pub unless_memory : (from : ℕ) (cs : List ℕ) (e : ExprFault)
    → (e ≢ fault.NoMemory → IsFaultFrom from cs e) → IsFaultFrom from cs e
unless_memory from cs fault.NoMemory says = tt
unless_memory from cs e says = says (λ e. cc)

pub offsets_of : (text : List ℕ) (r : Answer) → IsRead text r → IfErr r (IsFaultOf text)
offsets_of text (Ok x) is = tt
offsets_of text (Err e) is =
    let i = one_input (chars text) in
    unless_memory 0 (chars text) e
    (λ memory. reported_at 0 (chars text) i.0 i.1 (occurrences_of i.0) max_levels e (first_of text (Err e) is i.0 i.1 memory))

-- a text reads as at most one expression
pub one_expression : (text : List ℕ) (one other : Expression) → ReadsAsExpr text one → ReadsAsExpr text other → one ≡ other
one_expression text one other is also =
    let same = same_input 0 (chars text) _ _ is.lexes also.lexes in
    let both = sym (read_back text one is) ∙ ap read_from same ∙ read_back text other also in
    cc
