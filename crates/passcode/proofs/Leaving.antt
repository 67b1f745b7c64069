-- The rest of the list in a state runs from there to the end.
use Rattle.passcode.proofs.Common
use Common.{ℕ, zero, suc, ◌≡◌, ◌+◌, ◌-◌, ◌<◌, ◌≤◌, ◌⊎◌, inl, inr, Bool, true, false, cond, List, [], ◌∷◌, ◌++◌, append_assoc}
use Common.{Option, Some, None, slice_get, get_or, length, refl, ap, ◌∙◌, sym, subst, arith, nat_eq, ◌↔◌, flat_map}
use Common.{list_any, position, position_or_len, range_with_len, cases_eq, cases_lt, eq-eqb, eqb-true, lt-ltb, ne_eqb}
use Common.{get_or_from_slice_get, slice_get_within, slice_get-get_or, DifferIn, Has, Item, Production, Rule, Target, item_at}
use Common.{Passes, HasPass, IsLegalFor, MayUse, item_passes, Instr, IsRuleAt, set_or_def, AreDone, IsFinal, IsTurnOf, IsVisited}
use Common.{MayCompute, MayRun, Phase, Runs, State, Between, Got, Gone, Ended, after, after_get, arity, place_of, run_count}
use Common.{start, visits, is_same, remaining_for, generated_list, visit, add-one}
use Common.item
use Common.instr
use Rattle.std.proofs.lemmas.Bool.Decides.{nat_tests}
use Rattle.std.proofs.lemmas.Map.Keys.{any_passes_from_place}
use Rattle.std.proofs.lemmas.List.Quantifiers.{position-Some}
use Rattle.std.proofs.lemmas.List.Sums.{fails_before_first}
use Rattle.ag_grammar.specs.grammars.Counts.{is_pass, pass_at}
use Rattle.passcode.specs.Listing.{child_part, own_part, remaining_instruction, remaining_at}
use Rattle.passcode.specs.Listing.{remaining_from, remaining_in, rule_for}
use Rattle.passcode.proofs.Agreeing.{has_symbol}
use Rattle.passcode.proofs.Following.{may_use_most}
use Rattle.passcode.proofs.Marks.{read_in, read_is, read_within, run_after, run_in, run_is, target_at}
use Rattle.passcode.proofs.States.{IsKept}
use Rattle.passcode.proofs.Turns.{in_order, is_stored_child, one_turn, turn_of}

one_target : (o w : Target) → o.place ≡ w.place → o.attr ≡ w.attr → o ≡ w
one_target o w e f = ap (λ j. target_at j o.attr) e ∙ ap (target_at w.place) f

pub same_target : (o w : Target) → is_same o w ≡ true → o ≡ w
same_target o w e = one_target o w (grind (arith, nat_tests)) (grind (arith, nat_tests))

is_same_refl : (o : Target) → is_same o o ≡ true
is_same_refl o = grind (arith, nat_tests)

-- the rule that was found computes the attribute; if none was found, none does
rule_found : (us : List Rule) (o : Target) (r : ℕ) → position (λ u. is_same u.target o) us ≡ Some r → (u : Rule)
    × (slice_get us r ≡ Some u) × (u.target ≡ o)
rule_found [] o r e = absurd cc
rule_found (v ∷ us) o r e =
    let found = position-Some (λ u. is_same u.target o) (v ∷ us) r v e in
    let u = get_or (v ∷ us) r v in
    (u, slice_get-get_or (v ∷ us) r v found.0, same_target u.target o found.1)

none_found : (us : List Rule) (o : Target) → position (λ u. is_same u.target o) us ≡ None → (r : ℕ) (u : Rule)
    → slice_get us r ≡ Some u → u.target ≡ o → ⊥
none_found us o e r u at same =
    let first = position_or_len (λ u. is_same u.target o) us in
    elim (cases_lt first (length us)) [
      | inl less ↦ (let some = ap (λ b. cond b (Some first) None) (lt-ltb first (length us) less) in cc)
      | inr past ↦ (
          let within = slice_get_within us r u at in
          let fails = rw (get_or_from_slice_get us r u u at, same) at
          (fails_before_first (λ u. is_same u.target o) us r u (omega arith)) in
          let passes = is_same_refl o in
          cc)
    ]

-- a number that the test finds in a list is in it
has_number : (done : List ℕ) (r : ℕ) → list_any (nat_eq r) done ≡ true → Has done r
has_number [] r e = absurd cc
has_number (x ∷ done) r e = elim (cases_eq r x) [
  | inl same ↦ (0, ap Some (sym same))
  | inr other ↦ (let h = has_number done r (rw (ne_eqb r x other) at e) in (suc h.0, h.1))
]

pub lacks_number : (done : List ℕ) (r : ℕ) → list_any (nat_eq r) done ≡ false → Has done r → ⊥
lacks_number done r e (i, at) =
    cc (any_passes_from_place (nat_eq r) done i r at (eq-eqb r r refl))

pub is_the_pass : (k : ℕ) (o : Option ℕ) → (is_pass k o ≡ true → o ≡ Some k) × (is_pass k o ≡ false → o ≡ Some k → ⊥)
is_the_pass k None = ((λ e. absurd cc), λ e f. cc)
is_the_pass k (Some p) =
    ((λ e. ap Some (eqb-true p k e)), λ e f. (let same : p ≡ k = cc in let t = eq-eqb p k same in cc))

abbrev node : Phase → ℕ → List ℕ → State
node phase turn done = record { phase = phase; turn = turn; done = done }

-- A state that a node can reach: no more children were read than there are, and all rules of the pass for children in which the
-- pass has run were run.
pub record IsReached (m : Passes) (q : Production) (k : ℕ) (s : State) : Type 0 where
  pub within : read_in s ≤ arity q
  pub computed : (t : ℕ) → t < run_in s → AreDone m q k s (place_of q k t)

module _ (m : Passes) (q : Production) (k : ℕ) (one : 1 ≤ k) where
  pub starts : IsReached m q k start
  starts = record { within = omega arith; computed = λ t less. absurd (omega arith) }

  pub reached : IsKept m q k (IsReached m q k)
  reached s x may is = record { within = read_within m q k s x may is.within; computed = computed s x may is.computed }
    where
      more : (s : State) (n j : ℕ) → AreDone m q k s j → AreDone m q k (record s { done = n ∷ s.done }) j
      more s n j computed r u at place has = let h = computed r u at place has in (suc h.0, h.1)

      computed : (s : State) (x : Instr) → MayRun m q k s x → ((t : ℕ) → t < run_in s → AreDone m q k s (place_of q k t))
          → (t : ℕ) → t < run_in (after q s x) → AreDone m q k (after q s x) (place_of q k t)
      computed s (instr.Get j) may was t less = elim (cases_lt t s.turn) [
        | inl h ↦ was t (let c = run_is s may.phase_is in omega arith)
        | inr le ↦ λ r u at place has. (
            let most = run_after (item_at q j) s.turn in
            let same : t ≡ s.turn = omega arith in
            let symbol = has_symbol m q u.target k one has in
            let here : item_at q j ≡ Some (item.Symbol symbol.0) =
            ap (item_at q) (may.place ∙ ap (place_of q k) (sym same) ∙ sym place) ∙ symbol.1 in
            let bad = rw here at less in
            absurd (omega arith))
      ]
      computed s (instr.Set j a r) may was t less = more s r (place_of q k t) (was t less)
      computed s (instr.Go j) may was t less = elim (cases_eq t s.turn) [
        | inl same ↦ subst (AreDone m q k s) (may.0.place ∙ ap (place_of q k) (sym same)) may.1
        | inr other ↦ was t (let c = run_is s may.0.phase_is in omega arith)
      ]
      computed s (instr.Put j) may was t less = was t (let c = run_is s may.phase_is in omega arith)
      computed s (instr.Def a r) may was t less = more s r (place_of q k t) (was t less)
      computed s instr.End may was t less = was t (let c = run_is s may.0 in omega arith)

module _ (m : Passes) (q : Production) (k : ℕ) (one : 1 ≤ k) (single : DifferIn (λ u. u.target) q.rules)
    (allowed : IsLegalFor (HasPass m) q) (s : State) where
  abbrev old : List ℕ
  old = s.done

  -- The remaining instructions for one attribute: none, if each rule of the pass for it was run; otherwise that rule's one.
  record IsNothing (o : Target) : Type 0 where
    empty : remaining_for m q k old o ≡ []
    run : (r : ℕ) (u : Rule) → IsRuleAt q r u → u.target ≡ o → HasPass m q o k → Has old r

  record IsOne (o : Target) : Type 0 where
    number : ℕ
    rule : Rule
    numbered : IsRuleAt q number rule
    target : rule.target ≡ o
    passed : HasPass m q o k
    new : Has old number → ⊥
    alone : remaining_for m q k old o ≡ set_or_def o.place o.attr number ∷ []

  left_is : (o : Target) → IsNothing o ⊎ IsOne o
  left_is o = by_pass (is_pass k (pass_at m q o)) (rule_for q o) refl refl refl
    where
      by_list : (r : ℕ) → HasPass m q o k → rule_for q o ≡ Some r → (b : Bool) → list_any (nat_eq r) old ≡ b
          → remaining_for m q k old o ≡ cond b [] (set_or_def o.place o.attr r ∷ []) → IsNothing o ⊎ IsOne o
      by_list r has e true h is = let found = rule_found q.rules o r e in inl record {
        empty = is;
        run = λ n u at same passed. rw (single n r u found.0 at found.1 (same ∙ sym found.2)) (has_number old r h);
      }
      by_list r has e false h is = let found = rule_found q.rules o r e in inr record {
        number = r;
        rule = found.0;
        numbered = found.1;
        target = found.2;
        passed = has;
        new = lacks_number old r h;
        alone = is;
      }

      by_pass : (b : Bool) (n : Option ℕ) → is_pass k (pass_at m q o) ≡ b → rule_for q o ≡ n
          → remaining_for m q k old o ≡ cond b (remaining_instruction old o n) [] → IsNothing o ⊎ IsOne o
      by_pass true None p e is = inl record { empty = is; run = λ n u at same has. absurd (none_found q.rules o e n u at same) }
      by_pass true (Some r) p e is = by_list r ((is_the_pass k (pass_at m q o)).0 p) e (list_any (nat_eq r) old) refl is
      by_pass false n p e is = inl record
          { empty = is; run = λ n u at same has. absurd ((is_the_pass k (pass_at m q o)).1 p has) }

  -- Of the rules of the pass, `done` has exactly those of `old` and those for attributes with property P. This holds while the
  -- remaining instructions run.
  record Way (P : Target → Type 0) (done : List ℕ) : Type 0 where
    ran : (r : ℕ) (u : Rule) → IsRuleAt q r u → HasPass m q u.target k → Has done r ↔ (Has old r ⊎ P u.target)

  regroup : {P Q : Target → Type 0} {done : List ℕ} → Way P done → ((o : Target) → P o → Q o)
      → ((r : ℕ) (u : Rule) → IsRuleAt q r u → HasPass m q u.target k → Q u.target → Has old r ⊎ P u.target) → Way Q done
  regroup way forth back = record {
    ran = λ r u at has. (
      (λ h. elim ((way.ran r u at has).0 h) [ inl is ↦ inl is | inr p ↦ inr (forth u.target p) ]),
      λ h. (way.ran r u at has).1 (elim h [ inl is ↦ inl is | inr p ↦ back r u at has p ]),
    );
  }

  -- `IsDoneAt`: an attribute is at one of the first t children. `IsPassed`: it is, or it is at place j with a number below a.
  abbrev IsDoneAt : ℕ → Target → Type 0
  IsDoneAt t o = IsVisited q k t o.place

  abbrev IsPassed : (t j a : ℕ) → Target → Type 0
  IsPassed t j a o = IsDoneAt t o ⊎ ((o.place ≡ j) × (o.attr < a))

  -- the turn of the place of an argument of the pass
  place_turn : (o : Target) → HasPass m q o k → (o.place ≡ 0 → ⊥) → IsVisited q k (arity q) o.place
  place_turn o has own = let s = has_symbol m q o k one has in turn_of q k o.place (item.Symbol s.0, (omega arith, s.1))

  -- the number of attributes at a place, which is above the number of each of them
  abbrev attribute_count : ℕ → ℕ
  attribute_count j = length (item_passes m (item_at q j))

  within_count : (o : Target) (j : ℕ) → o.place ≡ j → HasPass m q o k → o.attr < attribute_count j
  within_count o j place has = rw place at (slice_get_within (item_passes m (item_at q o.place)) o.attr k has)

  -- a list runs from a phase with t complete children, if the rules with these numbers were run
  abbrev From : Phase → ℕ → List ℕ → List Instr → Type 0
  From p t done ys = Runs m q k (node p t done) ys

  -- A node in a phase with t complete children computes the attributes at place j.
  record Computes (p : Phase) (t j : ℕ) : Type 0 where
    new : IsVisited q k t j → ⊥
    count : run_count p t ≡ t
    before : (u : ℕ) → u < arity q → MayUse k j (place_of q k u) k → u < t
    runs : (a r : ℕ) (done : List ℕ) (ys : List Instr) → MayCompute m q k (node p t done) j a r
        → From p t (r ∷ done) ys → From p t done (set_or_def j a r ∷ ys)

  module _ {p : Phase} {t j : ℕ} (here : Computes p t j) where
    -- an attribute that is passed before number a + 1 is passed before number a, or is attribute a
    passed_now : (a : ℕ) (o : Target) → IsPassed t j (a + 1) o → IsPassed t j a o ⊎ (o ≡ target_at j a)
    passed_now a o (inl h) = inl (inl h)
    passed_now a o (inr (place, less)) = elim (cases_lt o.attr a) [
      | inl h ↦ inl (inr (place, h))
      | inr le ↦ inr (one_target o (target_at j a) place (omega arith))
    ]

    further : (a : ℕ) (o : Target) → IsPassed t j a o → IsPassed t j (a + 1) o
    further a o (inl h) = inl h
    further a o (inr h) = inr (h.0, omega arith)

    module _ (a : ℕ) (done : List ℕ) (way : Way (IsPassed t j a) done) (it : IsOne (target_at j a)) where
      module _ (r : ℕ) (u : Rule) (at : IsRuleAt q r u) (has : HasPass m q u.target k) where
        only : Has (it.number ∷ done) r → Has old r ⊎ IsPassed t j (a + 1) u.target
        only (zero, e) =
            let same : it.number ≡ r = cc in
            let rule : u ≡ it.rule = (let numbered = it.numbered in cc) in
            rw (rule, it.target) (inr (inr (refl, omega arith)))
        only (suc i, e) = elim ((way.ran r u at has).0 (i, e)) [ inl is ↦ inl is | inr h ↦ inr (further a u.target h) ]

        ran : Has old r ⊎ IsPassed t j (a + 1) u.target → Has (it.number ∷ done) r
        ran (inl is) = let h = (way.ran r u at has).1 (inl is) in (suc h.0, h.1)
        ran (inr p) = elim (passed_now a u.target p) [
          | inl before ↦ (let h = (way.ran r u at has).1 (inr before) in (suc h.0, h.1))
          | inr same ↦ (0, ap Some (single it.number r it.rule u it.numbered at (it.target ∙ sym same)))
        ]

      run_one : Way (IsPassed t j (a + 1)) (it.number ∷ done)
      run_one = record { ran = λ r u at has. (only r u at has, ran r u at has) }

      may_compute : MayCompute m q k (node p t done) j a it.number
      may_compute = record {
        rule = it.rule;
        numbered = it.numbered;
        target = it.target;
        passed = passed;
        available = λ o arg. (let i = rw it.target at (allowed it.rule o k (it.number, it.numbered) arg passed) in
            (i.0, i.1, may_use_most k j o.place i.0 i.2, final o i.0 i.1 i.2));
        fresh = λ h. elim ((way.ran it.number it.rule it.numbered passed).0 h) [
          | inl is ↦ it.new is
          | inr (inl h) ↦ here.new (rw it.target at h)
          | inr (inr h) ↦ (let bad = rw it.target at h in omega arith)
        ];
      }
        where
          passed : HasPass m q it.rule.target k
          passed = rw it.target it.passed

          final : (o : Target) (i : ℕ) → HasPass m q o i → MayUse k j o.place i → IsFinal q k (node p t done) o.place i
          final o i has may = elim (cases_lt i k) [
            | inl less ↦ inl less
            | inr le ↦ elim (cases_eq o.place 0) [
              | inl own ↦ inr (inl own)
              | inr right ↦ (
                  let most = may_use_most k j o.place i may in
                  let same : i ≡ k = omega arith in
                  let turn = place_turn o (rw same at has) right in
                  let early = here.before turn.0 turn.1 (rw (same, turn.2) at may) in
                  let count = here.count in
                  inr (inr (turn.0, omega arith, turn.2)))
            ]
          ]

    -- the remaining instructions for the place, from an attribute on, run if the instructions after them do
    module _ (ys : List Instr) (next : (done : List ℕ) → Way (IsPassed t j (attribute_count j)) done → From p t done ys) where
      from_attribute : (n a : ℕ) (done : List ℕ) → a + n ≡ attribute_count j → Way (IsPassed t j a) done → From p t done
          (flat_map (λ a. remaining_for m q k old (target_at j a)) (range_with_len a n) ++ ys)
      from_attribute zero a done all way = next done (let all : a ≡ attribute_count j = omega arith in rw all at way)
      from_attribute (suc n) a done all way = elim (left_is (target_at j a)) [
        | inl none ↦ rw none.empty (from_attribute n (a + 1) done (omega arith) (regroup way (further a)
            (λ r u at has p. elim (passed_now a u.target p) [
              | inl before ↦ inr before
              | inr same ↦ inl (none.run r u at same (rw same at has))
            ])))
        | inr it ↦ rw it.alone (here.runs a it.number done _ (may_compute a done way it)
            (from_attribute n (a + 1) (it.number ∷ done) (omega arith) (run_one a done way it)))
      ]

      at_all : (done : List ℕ) → Way (IsDoneAt t) done → From p t done (remaining_at m q k old j ++ ys)
      at_all done way = from_attribute (attribute_count j) 0 done (omega arith) (regroup way (λ o h. inl h)
          (λ r u at has h. elim h [ inl v ↦ inr v | inr l ↦ absurd (omega arith) ]))

  turn_is : (p : Phase) (t : ℕ) (done : List ℕ) → t < arity q → IsTurnOf q k (node p t done) p (place_of q k t)
  turn_is p t done within = record { phase_is = refl; within = within; place = refl }

  -- a node computes the attributes of the child whose turn it is, and its own when all children are complete
  of_child : (t : ℕ) → t < arity q → Computes Got t (place_of q k t)
  of_child t within = record {
    new = λ v. (let same = one_turn q k t v.0 within (omega arith) v.2 in omega arith);
    count = refl;
    before = before;
    runs = λ a r done ys may rest. ((turn_is Got t done within, may), rest);
  }
    where
      before : (u : ℕ) → u < arity q → MayUse k (place_of q k t) (place_of q k u) k → u < t
      before u less (inr (inl h)) = (in_order q k u t less within).1 h.0
      before u less (inl h) = absurd (omega arith)
      before u less (inr (inr h)) = absurd (omega arith)

  own : (t : ℕ) → t ≡ arity q → Computes Between t 0
  own t all = record {
    new = λ v. omega arith;
    count = refl;
    before = λ u less may. omega arith;
    runs = λ a r done ys may rest. (((λ e. cc), may), rest);
  }

  child_runs : (t : ℕ) (done : List ℕ) (ys : List Instr) → t < arity q → Way (IsDoneAt t) done
      → ((done : List ℕ) → Way (IsDoneAt (suc t)) done → From Between (suc t) done ys)
      → From Got t done (child_part m q k old (place_of q k t) ++ ys)
  child_runs t done ys within way next =
      rw append_assoc (at_all (of_child t within) (instr.Go (place_of q k t) ∷ instr.Put (place_of q k t) ∷ ys)
      (λ done way. (
        (
          turn_is Got t done within,
          λ r u at place has. (way.ran r u at has).1 (inr (inr (place, within_count u.target (place_of q k t) place has))),
        ),
        (
          turn_is Gone t done within,
          next done (regroup way (λ o h. elim h [ inl v ↦ (v.0, omega arith, v.2) | inr l ↦ (t, omega arith, l.0) ])
              (λ r u at has v. elim (cases_eq v.0 t) [
                | inl same ↦ (let here = v.2 ∙ ap (place_of q k) same in
                    inr (inr (here, within_count u.target (place_of q k t) here has)))
                | inr other ↦ inr (inl (v.0, omega arith, v.2))
              ])),
        ),
      )) done way)

  -- the visits from a turn on, and then the node's own part
  from_turn : (n t : ℕ) (done : List ℕ) → t + n ≡ arity q → Way (IsDoneAt t) done
      → From Between t done (visits m q k old t n ++ own_part m q k old)
  from_turn zero t done all way = let last : t ≡ arity q = omega arith in at_all (own t last) (instr.End ∷ []) (λ done way. (
    (
      refl,
      last,
      λ j r u at place has. (way.ran r u at has).1 (inr (elim (cases_eq u.target.place 0) [
        | inl own ↦ inr (own, within_count u.target 0 own has)
        | inr right ↦ (let turn = place_turn u.target has right in inl (turn.0, omega arith, turn.2))
      ])),
    ),
    refl,
  )) done way
  from_turn (suc n) t done all way = rw (append_assoc, add-one t)
      (at_item (λ done. from_turn n (suc t) done (omega arith)) (item_at q (place_of q k t)) refl)
    where
      ys : List Instr
      ys = visits m q k old (suc t) n ++ own_part m q k old

      within : t < arity q
      within = omega arith

      at_item : ((done : List ℕ) → Way (IsDoneAt (suc t)) done → From Between (suc t) done ys) → (o : Option Item)
          → item_at q (place_of q k t) ≡ o
          → From Between t done (visit m q k old (place_of q k t) o ++ ys)
      at_item next None e = absurd (let x = is_stored_child q k t within in let both = sym e ∙ x.1.1 in cc)
      at_item next (Some (item.Symbol x)) e = (
        turn_is Between t done within,
        subst (λ o. From (after_get o) t done (child_part m q k old (place_of q k t) ++ ys)) (sym e)
            (child_runs t done ys within way next),
      )
      -- past a token, for which no rule of the pass computes anything
      at_item next (Some (item.Terminal x)) e = (
        turn_is Between t done within,
        rw e (
          turn_is Gone t done within,
          next done (regroup way (λ o v. (v.0, omega arith, v.2)) (λ r u at has v. elim (cases_eq v.0 t) [
            | inl same ↦ absurd (
                let s = has_symbol m q u.target k one has in
                let both = sym e ∙ ap (item_at q) (sym (v.2 ∙ ap (place_of q k) same)) ∙ s.1 in
                cc)
            | inr other ↦ inr (v.0, omega arith, v.2)
          ])),
        ),
      )

  -- the rest of the list in a state that a node can reach runs
  pub remaining_runs : IsReached m q k s → Runs m q k s (remaining_in m q k s.phase s.turn s.done)
  remaining_runs is = at_phase s.phase refl
    where
      way : (t : ℕ) → t ≤ run_in s → Way (IsDoneAt t) s.done
      way t le = record {
        ran = λ r u at has. (
          (λ h. inl h),
          λ h. elim h [ inl h ↦ h | inr v ↦ is.computed v.0 (omega arith) r u at v.2 has ],
        );
      }

      from : (t : ℕ) (done : List ℕ) → t ≤ arity q → Way (IsDoneAt t) done
          → From Between t done (remaining_from m q k s.done t)
      from t done le = from_turn (arity q - t) t done (omega arith)

      at_phase : (p : Phase) → s.phase ≡ p → From p s.turn s.done (remaining_in m q k p s.turn s.done)
      at_phase Between e =
          let c = read_is s e in
          let d = run_is s e in
          from s.turn s.done (omega arith) (way s.turn (omega arith))
      at_phase Got e =
          let c = read_is s e in
          let d = run_is s e in
          child_runs s.turn s.done (remaining_from m q k s.done (suc s.turn)) (omega arith) (way s.turn (omega arith))
          (λ done. from (suc s.turn) done (omega arith))
      at_phase Gone e =
          let c = read_is s e in
          let d = run_is s e in
          (turn_is Gone s.turn s.done (omega arith), from (suc s.turn) s.done (omega arith) (way (suc s.turn) (omega arith)))
      at_phase Ended e = refl

-- the list for the production and the pass runs from the start
pub list_runs : (m : Passes) (q : Production) (k : ℕ) → 1 ≤ k → DifferIn (λ u. u.target) q.rules → IsLegalFor (HasPass m) q
    → Runs m q k start (generated_list m q k)
list_runs m q k one single allowed = remaining_runs m q k one single allowed start (starts m q k one)
