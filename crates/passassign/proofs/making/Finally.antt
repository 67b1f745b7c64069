-- The initial and the final table.
use Rattle.passassign.proofs.Common
use Common.{ℕ, ◌≡◌, ◌+◌, ◌<◌, ◌≤◌, nat_lt, List, [], ◌∷◌, Some, None, zero, suc, ◌⊎◌, slice_get, get_or, length, unwrap_or, inl}
use Common.{inr, refl, ◌∙◌, arith, cases_lt, cases_Bool, lt-ltb, ltb-true, slice_get_within, slice_get_past, slice_get-get_or}
use Common.{get_or-eq_default, Production, Symbol, Grammar, Synthesized, symbol_kinds, dependencies_of, partial_of, IsLeast}
use Common.{IsMade, start, IsAcceptedWith, IsProgress, open_count, max_passes, passes_of, AreWithinMaxPasses, BelongTo, slot_of}
use Common.{state_at, state_of, pass_of_state, first_state, attribute_count, table_passes, IsFirstTable, IsTable, IsDeclared}
use Common.{AreRowsOfTable, PassesSoFar, Dependency, State, Absent, Open, Assigned}
use Rattle.passassign.proofs.slots.Linked.{kinds_names, attribute_within, state_in, parts, target_is}
use Rattle.passassign.proofs.making.Made.{made_before}
use Rattle.passassign.proofs.making.Refusing.{open_step}
use Rattle.passassign.proofs.making.Whole.{whole_least}

-- a symbol has an attribute for each number below its number of attributes
declared_at : (symbols : List Symbol) (s a : ℕ) → a < attribute_count (slice_get symbols s) → IsDeclared symbols s a
declared_at symbols s a lt =
    let kinds = symbol_kinds (slice_get symbols s) in
    let n = kinds_names (slice_get symbols s) in
    (get_or kinds a Synthesized, slice_get-get_or kinds a Synthesized (omega arith))

declared_within : (symbols : List Symbol) (s a : ℕ) → IsDeclared symbols s a → a < attribute_count (slice_get symbols s)
declared_within symbols s a is =
    omega (arith, slice_get_within (symbol_kinds (slice_get symbols s)) a is.0 is.1, kinds_names (slice_get symbols s))

pub first_state_open : (n a : ℕ) → a < n → first_state n a ≡ Open
first_state_open n a lt = rw (lt-ltb a n lt)

first_state_there : (n a : ℕ) → (first_state n a ≡ Absent → ⊥) → a < n
first_state_there n a there = elim (cases_Bool (nat_lt a n)) [ inl e ↦ ltb-true a n e | inr e ↦ absurd (there (rw e)) ]

first_state_none : (n a : ℕ) → pass_of_state (first_state n a) ≡ None
first_state_none n a = elim (cases_Bool (nat_lt a n)) [ inl e ↦ rw e | inr e ↦ rw e ]

module _ (symbols : List Symbol) (states : List State) (first : IsFirstTable symbols states) where
  -- the initial state of any attribute
  first_of : (s a : ℕ) → (state_of states s a ≡ Absent)
      ⊎ ((a < 16) × (state_of states s a ≡ first_state (attribute_count (slice_get symbols s)) a))
  first_of s a = elim (cases_Bool (nat_lt a 16)) [
    | inl e ↦ (
        let lt = ltb-true a 16 e in
        let at = state_in states s a lt in
        elim (cases_lt s (length symbols)) [
          | inl l ↦ (let f = first.at s a lt l in inr (lt, cc))
          | inr le ↦ (
              let f : state_at states (slot_of s a) ≡ Absent =
              get_or-eq_default states Absent (omega arith) in inl cc)
        ])
    | inr e ↦ inl (rw e)
  ]

  pub first_none : (s a : ℕ) → table_passes states s a ≡ None
  first_none s a = elim (first_of s a) [
    | inl e ↦ rw e
    | inr e ↦ rw e.1 (first_state_none (attribute_count (slice_get symbols s)) a)
  ]

  pub first_is_table : (small : (s a : ℕ) → IsDeclared symbols s a → (a < 16) × (s < length symbols)) → IsTable symbols states
  first_is_table small = record {
    len = first.len;
    there = λ s a. (
      (λ there. elim (first_of s a) [
        | inl e ↦ absurd (there e)
        | inr e ↦ declared_at symbols s a (first_state_there (attribute_count (slice_get symbols s)) a (λ f. there (cc e.1)))
      ]),
      (λ is e. (
          let w = small s a is in
          let first_open = first_state_open (attribute_count (slice_get symbols s)) a (declared_within symbols s a is) in
          cc (state_in states s a w.0, first.at s a w.0 w.1))),
    );
  }

pub with_of : {symbols : List Symbol} {productions : List Production} {g : Grammar} {all : List Dependency} {states : List State}
    → IsAcceptedWith symbols productions g → all ≡ dependencies_of productions → IsFirstTable symbols states
    → BelongTo g all states
with_of {g = g} {all} {states} w are first =
    let f : IsFirstTable g.symbols states = rw w.symbols_are first in
    let of_g : all ≡ dependencies_of g.productions = rw w.productions_are are in
    record {
      accepted = w.accepted;
      dependencies = of_g;
      table = first_is_table g.symbols states f (λ s a is. attribute_within g s a w.accepted is);
      led = λ u h e.
          let is = target_is w.accepted (parts g u (rw of_g at h)) in
          let within = attribute_within g u.strike.symbol u.strike.attr w.accepted is in
          f.at u.strike.symbol u.strike.attr within.0 within.1
          ∙ first_state_open (attribute_count (slice_get g.symbols u.strike.symbol)) u.strike.attr
          (declared_within g.symbols u.strike.symbol u.strike.attr is);
    }

pub first_made : {g : Grammar} {symbols : List Symbol} {states : List State} → IsFirstTable symbols states
    → IsMade g 1 (table_passes states)
first_made {symbols = symbols} {states} first = start (table_passes states) (first_none symbols states first)

none_open : (states : List State) → open_count states ≡ 0 → (k : ℕ) → state_at states k ≡ Open → ⊥
none_open [] e k o = cc
none_open (Open ∷ states) e k o = omega (arith, open_step Open states)
none_open (Absent ∷ states) e zero o = cc
none_open (Assigned p ∷ states) e zero o = cc
none_open (Absent ∷ states) e (suc k) o = none_open states (omega (arith, open_step Absent states)) k o
none_open (Assigned p ∷ states) e (suc k) o = none_open states (omega (arith, open_step (Assigned p) states)) k o

given_pass : (x : State) → (x ≡ Absent → ⊥) → (x ≡ Open → ⊥) → Some (unwrap_or (pass_of_state x) 0) ≡ pass_of_state x
given_pass Absent there o = absurd (there refl)
given_pass Open there o = absurd (o refl)
given_pass (Assigned p) there o = refl

-- the rows of a table without open attributes agree with the table
module _ {g : Grammar} {all : List Dependency} {p : PassesSoFar} {symbols : List Symbol} {productions : List Production}
    {rows : List (List ℕ)} (w : IsAcceptedWith symbols productions g) (progress : IsProgress g all p)
    (none : open_count p.states.items ≡ 0)
    (rows_are : AreRowsOfTable symbols p.states.items rows) where
  are : AreRowsOfTable g.symbols p.states.items rows
  are = rw w.symbols_are rows_are

  none_there : (s a : ℕ) → attribute_count (slice_get g.symbols s) ≤ a → (x : State) → state_of p.states.items s a ≡ x
      → pass_of_state x ≡ None
  none_there s a le Absent e = refl
  none_there s a le Open e = refl
  none_there s a le (Assigned q) e =
      let is = (progress.of.table.there s a).0 (λ f. cc) in
      let l = declared_within g.symbols s a is in absurd (omega arith)

  pub is_table : (s a : ℕ) → partial_of (passes_of rows) s a ≡ table_passes p.states.items s a
  is_table s a = elim (cases_lt a (attribute_count (slice_get g.symbols s))) [
    | inl lt ↦ (
        let d = declared_at g.symbols s a lt in
        let l = (attribute_within g s a w.accepted d).0 in
        let e = state_in p.states.items s a l in
        let there = given_pass (state_at p.states.items (slot_of s a)) (λ f. (progress.of.table.there s a).1 d (cc e))
        (none_open p.states.items none (slot_of s a)) in
        cc (are.passes s a lt))
    | inr le ↦ (
        let past = slice_get_past (passes_of rows s) a (omega (arith, are.len s)) in
        cc (none_there s a le (state_of p.states.items s a) refl))
  ]

  pub least : IsLeast g (passes_of rows)
  least =
      whole_least g p.next (table_passes p.states.items) (passes_of rows) w.accepted.complete w.accepted.normal progress.made
      (λ s. cc (are.len s, kinds_names (slice_get g.symbols s))) is_table

  pub few : p.next ≤ max_passes + 1 → AreWithinMaxPasses rows
  few next s a k e = let lt : k < p.next = made_before progress.made s a k (cc (is_table s a)) in omega arith
