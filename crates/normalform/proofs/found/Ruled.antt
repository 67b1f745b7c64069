-- The rules of a production: none is missing or duplicate, each target is one that they define, and each
-- argument one that they use.
use Rattle.normalform.proofs.Common
use Common.{ℕ, zero, suc, ◌≡◌, ◌+◌, ◌-◌, ◌<◌, ◌≤◌, ◌⊎◌, ◌||◌, ◌++◌, inl, inr, Bool, true, false, not, Occ}
use Common.{List, [], ◌∷◌, length, map, flat_map, fold, fold-append, Some, None, Option, slice_get, refl, ap, sym, subst, ◌∙◌}
use Common.{arith, and_parts, lt-ltb, eqb-true, eq-eqb, cases_eq, list_any-append, list_any, range_with_len, Has, Each, DifferIn}
use Common.{Item, Symbol, Target, Literal, Class, item_kinds, symbol_kinds, defined_kind, used_kind}
use Common.{HasKind, IsRule, RawGrammar, RawProduction, RawRule, NormalFault, Check, first_wrong, checks_along, next_index}
use Common.{defined_at, numbers_defined, same_target, with_target, with_reference, targets_of, missing_check, missing_at}
use Common.{missing_in, new_target, doubled_in, declared, placed, target_of, rule_of, numbered, at_mapped, mapped_at}
use Common.{Reference, reference_of, references_of, reference_check, holds, is_there, is_used, is_defined}
use Common.item
use Common.fault
use Common.rule_check
use Rattle.std.proofs.lemmas.Bool.{le-ltb}
use Rattle.ag_grammar.specs.declared.grammar.Rule.{Rule}
use Rattle.ag_grammar.specs.grammars.Accepted.{IsNormal}
use Rattle.normalform.specs.declared.faults.reference_checks.RuleCheck.{RuleCheck}
use Rattle.normalform.proofs.found.Apart.{DecidesBy, none_apart, checks_of_keys, apart_along, along_apart, apart_differ}
use Rattle.normalform.proofs.found.Apart.{differ_apart}
use Rattle.normalform.proofs.numbered.KindAt.{kind_is, synthesized_below, inherited_within}
use Rattle.normalform.proofs.numbered.Placing.{IsThere, kinds_at, places_same, role_in, role_is, kind_there, not_used, not_defined}
use Rattle.normalform.proofs.numbered.Placing.{defined_passes, used_passes}
use Rattle.normalform.proofs.found.Reduced.{symbols, produces, places, resolves}
use Rattle.normalform.proofs.found.Right.{both_right, together, is_right, right_is, flat_each, each_flat, map_each, each_map}
use Rattle.normalform.proofs.found.Right.{along_each, each_along, each_mapped, mapped_each, map_flat}

same_parts : (a b : Target) → a.place ≡ b.place → a.attr ≡ b.attr → record { place = a.place; attr = a.attr } ≡ b
same_parts a b e f = rw (e, f)

pub decides_targets : DecidesBy same_target
decides_targets = record {
  sound = λ a b h. let w = and_parts _ _ h in same_parts a b (eqb-true _ _ w.0) (eqb-true _ _ w.1);
  whole = λ a b e. rw (e, eq-eqb b.place b.place refl, eq-eqb b.attr b.attr refl) refl;
}

-- the targets so far, and that of a rule unless it is there already
abbrev with_rule : List Symbol → List Item → List Target → RawRule → List Target
with_rule ss items ts r = with_target ts (target_of ss items r.target)

-- arguments are no targets, so the targets among references are those of rules
no_targets : (ss : List Symbol) (items : List Item) (os : List Occ) (ts : List Target)
    → fold with_reference ts (map (reference_of ss items false) os) ≡ ts
no_targets ss items [] ts = refl
no_targets ss items (o ∷ os) ts = no_targets ss items os ts

targets_same : (ss : List Symbol) (items : List Item) (rules : List RawRule) (ts : List Target)
    → fold with_reference ts (flat_map (references_of ss items) rules) ≡ fold (with_rule ss items) ts rules
targets_same ss items [] ts = refl
targets_same ss items (r ∷ rs) ts =
    fold-append with_reference ts (references_of ss items r) (flat_map (references_of ss items) rs)
    ∙ ap (λ (us : List Target). fold with_reference us (flat_map (references_of ss items) rs))
    (no_targets ss items r.expr.occurrences (with_rule ss items ts r))
    ∙ targets_same ss items rs (with_rule ss items ts r)

-- a target of a list with one more target u is in the list, or is u
with_from : (t u : Target) (ts : List Target) → list_any (same_target t) (with_target ts u) ≡ true
    → (list_any (same_target t) ts ≡ true) ⊎ (same_target t u ≡ true)
with_from t u ts h = grind (arith, list_any-append)

with_keeps : (t u : Target) (ts : List Target) → list_any (same_target t) ts ≡ true
    → list_any (same_target t) (with_target ts u) ≡ true
with_keeps t u ts h = grind (arith, list_any-append)

with_has : (t : Target) (ts : List Target) → list_any (same_target t) (with_target ts t) ≡ true
with_has t ts = let same = decides_targets.whole t t refl in grind (arith, list_any-append)

-- one of the targets of rules is the target of some rule
among_from : (ss : List Symbol) (items : List Item) (t : Target) (rules : List RawRule) (ts : List Target)
    → list_any (same_target t) (fold (with_rule ss items) ts rules) ≡ true
    → (list_any (same_target t) ts ≡ true)
    ⊎ ((i : ℕ) × (r : RawRule) × (slice_get rules i ≡ Some r) × (target_of ss items r.target ≡ t))
among_from ss items t [] ts h = inl h
among_from ss items t (r ∷ rs) ts h = elim (among_from ss items t rs (with_rule ss items ts r) h) [
  | inl old ↦ elim (with_from t (target_of ss items r.target) ts old) [
    | inl before ↦ inl before
    | inr here ↦ inr (zero, r, refl, sym (decides_targets.sound t (target_of ss items r.target) here))
  ]
  | inr w ↦ inr (suc w.0, w.1, w.2, w.3)
]

among_keeps : (ss : List Symbol) (items : List Item) (t : Target) (rules : List RawRule) (ts : List Target)
    → list_any (same_target t) ts ≡ true → list_any (same_target t) (fold (with_rule ss items) ts rules) ≡ true
among_keeps ss items t [] ts h = h
among_keeps ss items t (r ∷ rs) ts h =
    among_keeps ss items t rs (with_rule ss items ts r) (with_keeps t (target_of ss items r.target) ts h)

among_has : (ss : List Symbol) (items : List Item) (rules : List RawRule) (ts : List Target) (i : ℕ) (r : RawRule)
    → slice_get rules i ≡ Some r → list_any (same_target (target_of ss items r.target)) (fold (with_rule ss items) ts rules)
    ≡ true
among_has ss items [] ts i r e = absurd (cc)
among_has ss items (s ∷ rs) ts zero r e = let z : s ≡ r = cc in
    among_keeps ss items (target_of ss items r.target) rs _ (rw z (with_has (target_of ss items r.target) ts))
among_has ss items (s ∷ rs) ts (suc i) r e = among_has ss items rs (with_rule ss items ts s) i r e

-- the numbers from a up to a + n, without a + n, are in the range
range_has : (a n k : ℕ) → a ≤ k → k < a + n → Has (range_with_len a n) k
range_has a zero k low high = absurd (omega arith)
range_has a (suc n) k low high = elim (cases_eq a k) [
  | inl here ↦ (zero, cc)
  | inr other ↦ let w = range_has (a + 1) n k (omega arith) (omega arith) in (suc w.0, w.1)
]

has_range : (a n i k : ℕ) → slice_get (range_with_len a n) i ≡ Some k → (a ≤ k) × (k < a + n)
has_range a zero i k e = absurd (cc)
has_range a (suc n) zero k e = let z : a ≡ k = cc in (omega arith, omega arith)
has_range a (suc n) (suc i) k e = let w = has_range (a + 1) n i k e in (omega (arith, w.0), omega (arith, w.1))

-- the attributes that rules define at a symbol's place are those of the kind
numbers_has : (place a : ℕ) (s : Symbol) → slice_get (symbol_kinds (Some s)) a ≡ Some (defined_kind place)
    → Has (numbers_defined place s) a
numbers_has zero a s k =
    let low = synthesized_below (length s.syn) (length s.inh) a (sym (kind_is s.syn s.inh a) ∙ k) in
    range_has 0 (length s.syn) a (omega arith) (omega (arith, low))
numbers_has (suc i) a s k =
    let w = inherited_within (length s.syn) (length s.inh) a (sym (kind_is s.syn s.inh a) ∙ k) in
    range_has _ _ a w.0 (omega (arith, w.1))

has_numbers : (place a i : ℕ) (s : Symbol) → slice_get (numbers_defined place s) i ≡ Some a
    → slice_get (symbol_kinds (Some s)) a ≡ Some (defined_kind place)
has_numbers zero a i s e =
    let w = has_range 0 (length s.syn) i a e in
    kind_is s.syn s.inh a ∙ rw (lt-ltb a (length s.syn) (omega (arith, w.1))) refl
has_numbers (suc n) a i s e =
    let w = has_range (length s.syn) (length s.inh) i a e in
    let low = le-ltb a (length s.syn) w.0 in
    let high = lt-ltb (a - length s.syn) (length s.inh) (omega (arith, w.0, w.1)) in
    kind_is s.syn s.inh a ∙ rw (low, high) refl

given_has : (ss : List Symbol) (q : RawProduction) (place : ℕ) (x : Item) (a : ℕ) → slice_get (placed ss q) place ≡ Some x
    → slice_get (item_kinds (declared ss) (Some x)) a ≡ Some (defined_kind place) → Has (defined_at ss place x) a
given_has ss q place (item.Symbol s) a e k = go (slice_get ss s) k
  where
    go : (o : Option Symbol) → slice_get (symbol_kinds o) a ≡ Some (defined_kind place)
        → Has (elim o [ Some x ↦ numbers_defined place x | None ↦ [] ]) a
    go None k = absurd (cc)
    go (Some y) k = numbers_has place a y k
given_has ss q zero (item.Terminal t) a e k = absurd (cc)
given_has ss q (suc i) (item.Terminal (Class c)) zero e k = absurd (cc)
given_has ss q (suc i) (item.Terminal (Class c)) (suc a) e k = absurd (cc)
given_has ss q (suc i) (item.Terminal (Literal l)) a e k = absurd (cc)

has_given : (ss : List Symbol) (place i : ℕ) (x : Item) (a : ℕ) → slice_get (defined_at ss place x) i ≡ Some a
    → slice_get (item_kinds (declared ss) (Some x)) a ≡ Some (defined_kind place)
has_given ss place i (item.Symbol s) a e = go (slice_get ss s) e
  where
    go : (o : Option Symbol) → slice_get (elim o [ Some x ↦ numbers_defined place x | None ↦ [] ]) i ≡ Some a
        → slice_get (symbol_kinds o) a ≡ Some (defined_kind place)
    go None e = absurd (cc)
    go (Some y) e = has_numbers place a i y e
has_given ss place i (item.Terminal t) a e = absurd (cc)

-- a rule of the numbered production has this target
abbrev IsRuled : RawGrammar → RawProduction → Target → Type 0
IsRuled raw q o = (r : Rule) × IsRule (produces raw q) r × (r.target ≡ o)

-- the targets of a production, and the checks of N6 by its numbered items
abbrev rule_targets : RawGrammar → RawProduction → List Target
rule_targets raw q = fold (with_rule (symbols raw) (places raw q)) [] q.rules

missing_same : (raw : RawGrammar) (p : ℕ) (q : RawProduction) → missing_in (symbols raw) p (resolves raw q)
    ≡ checks_along (missing_at (symbols raw) (rule_targets raw q) p) next_index 0 (places raw q)
missing_same raw p q =
    let ss = symbols raw in
    let references = flat_map (references_of ss (places raw q)) q.rules in
    ap (λ (xs : List Item). checks_along (missing_at ss (targets_of references) p) next_index 0 xs) (places_same ss q)
    ∙ ap (λ (ts : List Target). checks_along (missing_at ss ts p) next_index 0 (places raw q))
    (targets_same ss (places raw q) q.rules [])

-- no rule is missing
pub all_ruled : (raw : RawGrammar) (p : ℕ) (q : RawProduction) → first_wrong (missing_in (symbols raw) p (resolves raw q)) ≡ None
    → (o : Target) → HasKind (numbered raw) (produces raw q) o (defined_kind o.place) → IsRuled raw q o
all_ruled raw p q h o k =
    go (slice_get (places raw q) o.place) refl (rw (kinds_at raw q o.place) at k)
  where
    go : (x : Option Item) → slice_get (places raw q) o.place ≡ x
        → slice_get (item_kinds (declared (symbols raw)) x) o.attr ≡ Some (defined_kind o.place) → IsRuled raw q o
    go None e kind = absurd (cc)
    go (Some x) e kind =
        let ss = symbols raw in
        let items = places raw q in
        let ts = rule_targets raw q in
        let there : 0 + o.place ≡ o.place = omega arith in
        let here : first_wrong (missing_at ss ts p o.place x) ≡ None =
        rw there at (along_each (missing_at ss ts p) 0 items (sym (ap first_wrong (missing_same raw p q)) ∙ h) o.place x e) in
        let has = given_has ss q o.place x o.attr e kind in
        let right = map_each (missing_check ts p o.place) (defined_at ss o.place x) here has.0 o.attr has.1 in
        elim (among_from ss items o q.rules [] right) [
          | inl none ↦ absurd (cc)
          | inr (i, r, at, same) ↦ (rule_of ss items r, (i, at_mapped _ _ i r at), same)
        ]

pub ruled_all : (raw : RawGrammar) (p : ℕ) (q : RawProduction)
    → ((o : Target) → HasKind (numbered raw) (produces raw q) o (defined_kind o.place) → IsRuled raw q o)
    → first_wrong (missing_in (symbols raw) p (resolves raw q)) ≡ None
ruled_all raw p q all =
    let ss = symbols raw in
    let ts = rule_targets raw q in
    ap first_wrong (missing_same raw p q)
    ∙ each_along (missing_at ss ts p) 0 (places raw q)
    (λ place x e. each_map (missing_check ts p (0 + place)) (defined_at ss (0 + place) x) (place_right place x e))
  where
    place_right : (place : ℕ) (x : Item) → slice_get (places raw q) place ≡ Some x → (i a : ℕ)
        → slice_get (defined_at (symbols raw) (0 + place) x) i ≡ Some a
        → list_any (same_target (record { place = 0 + place; attr = a })) (rule_targets raw q) ≡ true
    place_right place x e i a f =
        let ss = symbols raw in
        let items = places raw q in
        let there : 0 + place ≡ place = omega arith in
        let o : Target = record { place = place; attr = a } in
        let kind : HasKind (numbered raw) (produces raw q) o (defined_kind place) =
        rw (kinds_at raw q place, e) (has_given ss place i x a (rw there at f)) in
        let (s, at, same_target) = all o kind in
        let (r, there_r, made) = mapped_at (rule_of ss items) q.rules at.0 s at.1 in
        let same : target_of ss items r.target ≡ o = cc (ap (λ (r : Rule). r.target) made) in
        rw (there, ← same) (among_has ss items q.rules [] at.0 r there_r)

-- elements of a mapped list are distinct if their origins are
pub differ_mapped : {X Y Z : Type 0} (g : X → Y) (f : Y → Z) (xs : List X) → DifferIn (λ x. f (g x)) xs → DifferIn f (map g xs)
differ_mapped g f xs differ i j x y a b same =
    let w = mapped_at g xs i x a in
    let v = mapped_at g xs j y b in
    differ i j w.0 v.0 w.1 v.1 (cc)

pub mapped_differ : {X Y Z : Type 0} (g : X → Y) (f : Y → Z) (xs : List X) → DifferIn f (map g xs) → DifferIn (λ x. f (g x)) xs
mapped_differ g f xs differ i j x y a b = differ i j (g x) (g y) (at_mapped g xs i x a) (at_mapped g xs j y b)

-- in a test that passes if an attribute does not exist
if_there : (a b : Bool) → b ≡ true → (a || not b) ≡ true → a ≡ true
if_there true b e h = refl
if_there false true e h = absurd (cc)
if_there false false e h = absurd (cc)

in_test : (a b : Bool) → a ≡ true → (a || not b) ≡ true
in_test a b h = rw h refl

-- the rules of a production
module _ (raw : RawGrammar) (q : RawProduction) where
  abbrev made : RawRule → Rule
  made r = rule_of (symbols raw) (places raw q) r

  abbrev target : RawRule → Target
  target r = target_of (symbols raw) (places raw q) r.target

  abbrev fault_of : RawRule → NormalFault
  fault_of r = fault.RuleDoubled r.target.at

  abbrev defined : RawRule → Reference
  defined r = reference_of (symbols raw) (places raw q) true r.target

  abbrev argument : Occ → Reference
  argument o = reference_of (symbols raw) (places raw q) false o

  abbrev references : RawRule → List Reference
  references r = references_of (symbols raw) (places raw q) r

  abbrev targets_from : List Target → List Reference → List Check
  targets_from ts os = checks_along new_target with_reference ts os

  abbrev keys_from : List Target → List RawRule → List Check
  keys_from ts rules = checks_of_keys same_target fault_of target (λ r. []) ts rules

  abbrev is_new : List Target → RawRule → Bool
  is_new ts r = not (list_any (same_target (target r)) ts)

  abbrev new_check_of : List Target → RawRule → Check
  new_check_of ts r = (fault_of r, is_new ts r || not (is_there (role_in raw q r.target)))

  -- arguments pass
  past_arguments : (ts : List Target) (os : List Occ) (rest : List Reference)
      → first_wrong (targets_from ts (map argument os ++ rest)) ≡ first_wrong (targets_from ts rest)
  past_arguments ts [] rest = refl
  past_arguments ts (o ∷ os) rest = past_arguments ts os rest

  exists : (o : Occ) → IsThere raw q o → is_there (role_in raw q o) ≡ true
  exists o (k, h) = rw (role_is raw q o k h) (kind_there k o.place)

  -- the checks of targets that exist are those of keys
  keys_pass : (rules : List RawRule) (ts : List Target) → Each (λ r. IsThere raw q r.target) rules
      → first_wrong (targets_from ts (flat_map references rules)) ≡ None → first_wrong (keys_from ts rules) ≡ None
  keys_pass [] ts there h = refl
  keys_pass (r ∷ rs) ts there h =
      let rest = flat_map references rs in
      let after = with_target ts (target r) in
      let w = both_right (new_check_of ts r ∷ []) (targets_from after (map argument r.expr.occurrences ++ rest)) h in
      together ((fault_of r, is_new ts r) ∷ []) (keys_from after rs)
      (right_is (fault_of r, is_new ts r)
      (if_there (is_new ts r) (is_there (role_in raw q r.target)) (exists r.target (there zero r refl))
      (is_right (new_check_of ts r) w.0)))
      (keys_pass rs after (λ i. there (suc i)) (sym (past_arguments after r.expr.occurrences rest) ∙ w.1))

  pass_keys : (rules : List RawRule) (ts : List Target) → first_wrong (keys_from ts rules) ≡ None
      → first_wrong (targets_from ts (flat_map references rules)) ≡ None
  pass_keys [] ts h = refl
  pass_keys (r ∷ rs) ts h =
      let rest = flat_map references rs in
      let after = with_target ts (target r) in
      let w = both_right ((fault_of r, is_new ts r) ∷ []) (keys_from after rs) h in
      together (new_check_of ts r ∷ []) (targets_from after (map argument r.expr.occurrences ++ rest))
      (right_is (new_check_of ts r)
      (in_test (is_new ts r) (is_there (role_in raw q r.target)) (is_right (fault_of r, is_new ts r) w.0)))
      (past_arguments after r.expr.occurrences rest ∙ pass_keys rs after w.1)

  abbrev TargetsThere : Type 0
  TargetsThere = Each (λ r. IsThere raw q r.target) q.rules

  -- no rule is duplicate
  pub rules_single : TargetsThere → first_wrong (doubled_in (resolves raw q)) ≡ None
      → DifferIn (λ r. r.target) (produces raw q).rules
  rules_single there h =
      differ_mapped made (λ (r : Rule). r.target) q.rules (apart_differ target q.rules
      (apart_along same_target fault_of target (λ r. []) decides_targets [] q.rules none_apart (keys_pass q.rules [] there h)))

  pub single_rules : DifferIn (λ r. r.target) (produces raw q).rules → first_wrong (doubled_in (resolves raw q)) ≡ None
  single_rules h =
      pass_keys q.rules []
      (along_apart same_target fault_of target (λ r. []) decides_targets [] q.rules
      (differ_apart target q.rules (mapped_differ made (λ (r : Rule). r.target) q.rules h)) (λ i x e. refl))

  -- the checks of the references of a rule
  abbrev checks : RuleCheck → RawRule → List Check
  checks x r = map (reference_check x) (references r)

  abbrev AreRight : RuleCheck → Type 0
  AreRight x = first_wrong (map (reference_check x) (resolves raw q).references) ≡ None

  pub rule_right : (x : RuleCheck) → AreRight x → (i : ℕ) (r : RawRule) → slice_get q.rules i ≡ Some r
      → (holds x (defined r) ≡ true) × Each (λ o. holds x (argument o) ≡ true) r.expr.occurrences
  rule_right x h i r e =
      let all = sym (ap first_wrong (map_flat (reference_check x) references q.rules)) ∙ h in
      let arguments = map argument r.expr.occurrences in
      let w = both_right (reference_check x (defined r) ∷ []) (map (reference_check x) arguments)
      (flat_each (checks x) q.rules all i r e) in (
        is_right (reference_check x (defined r)) w.0,
        mapped_each argument (λ o. holds x o ≡ true) r.expr.occurrences (map_each (reference_check x) arguments w.1),
      )

  pub right_rules : (x : RuleCheck) → ((i : ℕ) (r : RawRule) → slice_get q.rules i ≡ Some r
      → (holds x (defined r) ≡ true) × Each (λ o. holds x (argument o) ≡ true) r.expr.occurrences)
      → AreRight x
  right_rules x h =
      ap first_wrong (map_flat (reference_check x) references q.rules)
      ∙ each_flat (checks x) q.rules (λ i r e. let w = h i r e in
      together (reference_check x (defined r) ∷ []) (map (reference_check x) (map argument r.expr.occurrences))
      (right_is (reference_check x (defined r)) w.0)
      (each_map (reference_check x) (map argument r.expr.occurrences)
      (each_mapped argument (λ o. holds x o ≡ true) r.expr.occurrences w.1)))

  abbrev number : Occ → Target
  number o = target_of (symbols raw) (places raw q) o

  -- the rules define each target
  abbrev IsDefined : Rule → Type 0
  IsDefined r = HasKind (numbered raw) (produces raw q) r.target (defined_kind r.target.place)

  is_given : (o : Occ) → IsThere raw q o → not (is_used (role_in raw q o)) ≡ true
      → HasKind (numbered raw) (produces raw q) (number o) (defined_kind o.place)
  is_given o (k, h) passes =
      subst (HasKind (numbered raw) (produces raw q) (number o)) (not_used k o.place (rw (role_is raw q o k h) at passes)) h

  pub targets_given : TargetsThere → AreRight rule_check.Defined → Each IsDefined (produces raw q).rules
  targets_given there h = each_mapped made IsDefined q.rules (λ i r e.
      is_given r.target (there i r e) (rule_right rule_check.Defined h i r e).0)

  given_passes : (o : Occ) → HasKind (numbered raw) (produces raw q) (number o) (defined_kind o.place)
      → not (is_used (role_in raw q o)) ≡ true
  given_passes o h = rw (role_is raw q o (defined_kind o.place) h) (defined_passes o.place)

  pub given_targets : Each IsDefined (produces raw q).rules → AreRight rule_check.Defined
  given_targets h =
      right_rules rule_check.Defined (λ i r e. (given_passes r.target (mapped_each made IsDefined q.rules h i r e), λ j o f. refl))

  -- the rules use each argument
  abbrev IsUsed : Target → Type 0
  IsUsed o = HasKind (numbered raw) (produces raw q) o (used_kind o.place)

  is_argument : (o : Occ) → IsThere raw q o → not (is_defined (role_in raw q o)) ≡ true → IsUsed (number o)
  is_argument o (k, h) passes =
      subst (HasKind (numbered raw) (produces raw q) (number o)) (not_defined k o.place (rw (role_is raw q o k h) at passes)) h

  pub arguments_found : ((i : ℕ) (r : RawRule) → slice_get q.rules i ≡ Some r → Each (IsThere raw q) r.expr.occurrences)
      → AreRight rule_check.Used → IsNormal (numbered raw) (produces raw q)
  arguments_found there h = each_mapped made (λ r. Each IsUsed r.args) q.rules (λ i r e.
      each_mapped number IsUsed r.expr.occurrences (λ j o f.
      is_argument o (there i r e j o f) ((rule_right rule_check.Used h i r e).1 j o f)))

  argument_passes : (o : Occ) → IsUsed (number o) → not (is_defined (role_in raw q o)) ≡ true
  argument_passes o h = rw (role_is raw q o (used_kind o.place) h) (used_passes o.place)

  pub found_arguments : IsNormal (numbered raw) (produces raw q) → AreRight rule_check.Used
  found_arguments h = right_rules rule_check.Used (λ i r e. (
    refl,
    λ j o f. argument_passes o
        (mapped_each number IsUsed r.expr.occurrences (mapped_each made (λ s. Each IsUsed s.args) q.rules h i r e) j o f),
  ))
