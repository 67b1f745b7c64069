-- The proofs of the laws of the grammar language.
use Rattle.std.proofs.Common.{◌≡◌, ℕ, true, false, if◌then◌else◌, List, [], ◌∷◌, ◌++◌, map, Ok, Err, ◌⊎◌, inl, inr, chars, refl}
use Rattle.std.proofs.Common.{ap, sym, ◌∙◌, subst, append_assoc, append-nil, arith}
use Rattle.ag_tokens.specs.Ending.{Ending}
use Rattle.ag_tokens.specs.Ending as ending
use Rattle.ag_tokens.specs.PlacedToken.{PlacedToken, Input}
use Rattle.ag_tokens.specs.Parsing as reading
use Rattle.ag_tokens.specs.Parsing.{is_end, offset}
use Rattle.ag_tokens.proofs.Lexes.{one_input}
use Rattle.ag_grammar.specs.declared.raw.RawGrammar.{RawGrammar}
use Rattle.ag_text.specs.Laws.{ReadingAgrees, RefusesAtTheFirst, OneGrammar}
use Rattle.ag_text.specs.Offsets.{NoneGoesOn, IsFirstWrong}
use Rattle.ag_text.specs.Reading.{Outcome, grammar_from, grammar_of}
use Rattle.ag_text.specs.declared.stop.Stop.TheVariants.{WrongAt}
use Rattle.ag_text.specs.Syntax.{IsGrammar}
use Rattle.ag_text.proofs.Grammars.{grammar_exact, grammar_steady}
use Rattle.ag_expr.proofs.reading.Exact.{before, opened, answered}
use Rattle.ag_expr.proofs.reading.Steady.{Deep, Refused, Stuck, first, first_of}
use Rattle.ag_text.proofs.Manner.{itself, manner}

end_left : (e : Ending) (ps : List PlacedToken) → is_end e ps ≡ true → ps ≡ []
end_left e ps h = grind arith

-- the grammar `raw` is parsed, and the tokens end after it where the text ends
pub record Whole (i j : Input) (raw : RawGrammar) : Type 0 where
  pub read : grammar_from i ≡ Ok (raw, j)
  pub ends : is_end j.ending j.left ≡ true

pub whole_of : (i j : Input) (raw : RawGrammar) → grammar_of i ≡ Ok (raw, j) → Whole i j raw
unfolding grammar_of
whole_of i j raw h =
    let one = opened (grammar_from i) _ _ h in
    let read = one.1 in
    let closed : reading.and_then {A = Unit {0}}
    (if is_end one.0.1.ending one.0.1.left then Ok (tt {0}, one.0.1) else Err (WrongAt (offset one.0.1)))
    (λ u. reading.pure one.0.0) ≡ Ok (raw, j) = one.2 in
    record { read = grind arith; ends = grind arith }

pub sound : (at : ℕ) (ps : List PlacedToken) (j : Input) (raw : RawGrammar)
    → grammar_of (record { left = ps; ending = ending.EndsAt at }) ≡ Ok (raw, j) → IsGrammar ps raw
sound at ps j raw h =
    let i : Input = record { left = ps; ending = ending.EndsAt at } in
    let whole = whole_of i j raw h in
    let found = grammar_exact.sound i j raw whole.read in
    let last = end_left j.ending j.left whole.ends in
    let all : ps ≡ map (λ p. p) found.0 =
    ap (λ (k : Input). k.left) found.1 ∙ ap (λ qs. found.0 ++ qs) last ∙ append-nil found.0 ∙ sym (itself found.0) in
    subst (λ qs. IsGrammar qs raw) (sym all) found.2

read_whole : (e : Ending) (ps : List PlacedToken) (raw : RawGrammar) → IsGrammar ps raw
    → grammar_from (record { left = ps; ending = e }) ≡ Ok (raw, record { left = []; ending = e })
read_whole e ps raw is =
    ap (λ qs. grammar_from (record { left = qs; ending = e })) (sym (append-nil ps))
    ∙ grammar_exact.complete ps (record { left = []; ending = e }) raw
    (subst (λ qs. IsGrammar qs raw) (sym (itself ps)) is) refl

pub complete : (at : ℕ) (ps : List PlacedToken) (raw : RawGrammar) → IsGrammar ps raw
    → grammar_of (record { left = ps; ending = ending.EndsAt at }) ≡ Ok (raw, record { left = []; ending = ending.EndsAt at })
unfolding grammar_of
complete at ps raw is = rw (read_whole (ending.EndsAt at) ps raw is) refl

pub reading_agrees : ReadingAgrees
reading_agrees at ps raw = (λ h. sound at ps _ raw h, complete at ps raw)

pub one_grammar : OneGrammar
one_grammar text left right is also =
    let input = one_input (chars text) in
    let end : Input = record { left = []; ending = ending.EndsAt 0 } in
    let same : is.placed ≡ also.placed = ap (λ (i : Input). i.left) (input.2 _ is.lexes ∙ sym (input.2 _ also.lexes)) in
    let both =
    sym (read_whole (ending.EndsAt 0) is.placed left is.spells)
    ∙ ap (λ ps. grammar_from (record { left = ps; ending = ending.EndsAt 0 })) same
    ∙ read_whole (ending.EndsAt 0) also.placed right also.spells in
    sym (answered left right end end both).0

-- ---- the first wrong token

module _ (us : List PlacedToken) where
  -- if the tokens are a grammar, the parser returns it
  settled : (e : Ending) (rest : List PlacedToken) (raw : RawGrammar) → IsGrammar (us ++ rest) raw
      → grammar_from (before us (record { left = rest; ending = e })) ≡ Ok (raw, record { left = []; ending = e })
  settled e rest raw is = read_whole e (us ++ rest) raw is

  none_goes_on : (e : Ending) (ps : List PlacedToken)
      → ((k : Input) → first k ≡ first (record { left = ps; ending = e }) → (raw : RawGrammar)
      → grammar_from (before us k) ≡ Ok (raw, record { left = []; ending = k.ending }) → ⊥) → NoneGoesOn us e ps
  none_goes_on e [] refutes =
      λ at ends raw is. refutes (record { left = []; ending = e }) refl raw (settled e [] raw (rw append-nil is))
  none_goes_on e (p ∷ ps) refutes =
      λ (more, raw, is). refutes (record { left = p ∷ more; ending = e }) refl raw
      (settled e (p ∷ more) raw (subst (λ qs. IsGrammar qs raw) (append_assoc us (p ∷ []) more) is))

nothing : (qs : List PlacedToken) (p : PlacedToken) (ps : List PlacedToken) → first_of qs ≡ first_of (p ∷ ps) → qs ≡ [] → ⊥
nothing qs p ps h e = let bad : ⊥ = grind arith in bad

refused : (i : Input) (at : ℕ) → Refused manner IsGrammar grammar_from grammar_from i (WrongAt at) → IsFirstWrong i at
refused i at x = go x.how
  where
    ends : i.ending ≡ x.j.ending
    ends = ap (λ (k : Input). k.ending) x.cut

    go : Stuck manner grammar_from x.us x.j (WrongAt at) ⊎ Deep manner grammar_from x.us x.j (WrongAt at) x.rest
        → IsFirstWrong i at
    go (inr (p, ps, l, deep, heads, more)) = let bad : ⊥ = cc in absurd bad
    go (inl (says, stuck)) =
        let there : at ≡ offset x.j = cc in
        record {
          before = x.us;
          rest = x.j.left;
          cut = ap (λ (k : Input). k.left) x.cut;
          start = (x.rest, x.a, subst (λ qs. IsGrammar (qs ++ x.rest) x.a) (itself x.us) x.begins);
          says = rw ends there;
          none = none_goes_on x.us i.ending x.j.left (λ k same raw read. let contradiction = sym (stuck k same) ∙ read in cc);
        }

-- if a grammar is parsed, and the text does not end after it, the next token is the first wrong one
followed : (i j : Input) (raw : RawGrammar) → grammar_from i ≡ Ok (raw, j) → is_end j.ending j.left ≡ false
    → IsFirstWrong i (offset j)
followed i j raw read open_end =
    let x = (grammar_steady.at i).ok j raw read in
    let ends : i.ending ≡ j.ending = ap (λ (k : Input). k.ending) x.1 in
    record {
      before = x.0;
      rest = j.left;
      cut = ap (λ (k : Input). k.left) x.1;
      start = ([], raw, subst (λ qs. IsGrammar qs raw) (itself x.0 ∙ sym (append-nil x.0)) x.2);
      says = rw ends refl;
      none = go x.0 j.left j.ending ends open_end (λ k h. (x.3 k h).0);
    }
  where
    go : (us ps : List PlacedToken) (e : Ending) → i.ending ≡ e → is_end e ps ≡ false
        → ((k : Input) → first k ≡ first (record { left = ps; ending = e }) → grammar_from (before us k) ≡ Ok (raw, k))
        → NoneGoesOn us i.ending ps
    go us [] e same open_end again = λ at is raw all. let bad : is_end (ending.EndsAt at) [] ≡ false =
        subst (λ y. is_end y [] ≡ false) (sym same ∙ is) open_end in let never : ⊥ = cc in never
    go us (p ∷ ps) e same open_end again =
        none_goes_on us i.ending (p ∷ ps)
        (λ k first_same other read. nothing k.left p ps first_same
        (ap (λ (l : Input). l.left) (answered raw other k _ (sym (again k first_same) ∙ read)).1))

pub refuses_at_the_first : RefusesAtTheFirst
unfolding grammar_of
refuses_at_the_first i at h = go (grammar_from i) refl
  where
    go : (o : Outcome RawGrammar) → grammar_from i ≡ o → IsFirstWrong i at
    go (Ok (raw, j)) read = let open_end : is_end j.ending j.left ≡ false = grind arith in
        let same : offset j ≡ at = grind arith in subst (IsFirstWrong i) same (followed i j raw read open_end)
    go (Err s) read = let same : s ≡ WrongAt at = grind arith in
        refused i at ((grammar_steady.at i).err (WrongAt at) refl (read ∙ ap Err same))
