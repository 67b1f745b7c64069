-- A raw grammar has no fault exactly if the numbered one is accepted.
use Rattle.normalform.proofs.Common
use Common.{All, ◌↔◌, inr, ℕ, zero, suc, ◌≡◌, ◌+◌, ◌<◌, ◌≤◌, ◌≢◌, Bool, true, List, [], ◌∷◌, ◌++◌, length, map, Some, None}
use Common.{Option, ap, item_placed, places_of, RawRule}
use Common.{slice_get, get_or, refl, arith, subst, and_parts, eqb-true, leb-true, le-leb, length-map, slice_get-get_or}
use Common.{slice_get_within, get_or_from_slice_get, list_any, list_all, Has, Each, Differ, Item, Production, Symbol, Literal}
use Common.{Class, stored_items, is_below, RawGrammar, RawItem, RawProduction, NormalFault, Check, first_wrong, unknown_in}
use Common.{unknown_checks, is_start, start_checks, missing_in, missing_checks, doubled_in, doubled_rules, reference_check}
use Common.{reference_checks, few_attributes, few_items, few_children, is_short, limit_checks, ResolvedProduction}
use Common.{resolved_productions, rule_kinds, later_kinds, naming_checks, HasNoFault, IsReadable, IsReadableItem, IsSmall}
use Common.{IsListed, AreListedIn, IsFirstFault}
use Common.{in_names, in_productive, in_reached, in_rules, IsTrueOf, number_in, symbol_of, declared_names, item_of}
use Common.{is_class, classes_of, literals_of, numbered, at_mapped, mapped_at}
use Common.raw_item
use Common.fault
use Common.rule_check
use Rattle.std.proofs.lemmas.List.Kept.{AllPairs-filter}
use Rattle.ag_grammar.specs.grammars.Accepted.{IsAccepted, IsNamed, IsNamedItem, IsInUse, IsStart, IsComplete, IsNormal}
use Rattle.ag_grammar.specs.grammars.Accepted.{IsWithinGrammarLimits, IsSeparator, out_name, max_symbols}
use Rattle.ag_grammar.specs.grammars.Accepted.{max_productions, max_items, max_children, max_literals}
use Rattle.normalform.specs.declared.faults.reference_checks.RuleCheck.{RuleCheck}
use Rattle.normalform.proofs.found.Apart.{Apart}
use Rattle.normalform.proofs.found.Founds.{naming_parts}
use Rattle.normalform.proofs.found.Known.{symbols_differ, attributes_differ, differ_doubled, texts_differ, lefts_known}
use Rattle.normalform.proofs.found.Known.{rules_named, named_known, rule_known}
use Rattle.normalform.proofs.numbered.Listed.{any_has, has_any, literals_apart, literal_occurs, literal_listed, apart_same}
use Rattle.normalform.proofs.numbered.Listed.{number_at, filter_has, has_filter, class_occurs, occurs_class}
use Rattle.normalform.proofs.numbered.Placing.{IsThere, stored_same, places_same}
use Rattle.normalform.proofs.found.Reduced.{symbols, produces, resolves, item_checks, name_known, known, unknown_parts}
use Rattle.normalform.proofs.found.Right.{all_right, both_right, together, is_right, right_is, flat_each, along_each, each_along}
use Rattle.normalform.proofs.found.Right.{flat_at, at_flat, each_mapped, mapped_each}
use Rattle.normalform.proofs.found.Searched.{none_listed, listed_none, head_first}
use Rattle.normalform.specs.faults.AllFaults.{AreFaults, IsHead}
use Rattle.normalform.proofs.found.Ruled.{all_ruled, ruled_all, rules_single, single_rules, targets_given, given_targets}
use Rattle.normalform.proofs.found.Ruled.{arguments_found, found_arguments}
use Rattle.normalform.proofs.numbered.Small.{passes_at}

-- the literals
abbrev literals : RawGrammar → List (List ℕ)
literals raw = literals_of raw.productions

abbrev item_in : RawGrammar → RawItem → Item
item_in raw x = item_of (declared_names (symbols raw)) (literals raw) x

literal_used : (raw : RawGrammar) (l : ℕ) → l < length (literals raw) → IsInUse (numbered raw) (Literal l)
literal_used raw l lt =
    let text = get_or (literals raw) l [] in
    let e : slice_get (literals raw) l ≡ Some text = slice_get-get_or (literals raw) l [] lt in
    let (p, q, at, (i, f)) = literal_occurs raw.productions text (l, e) in
    let n = number_at (literals raw) (literals_apart raw.productions) l text e in
    (p, produces raw q, at_mapped _ _ p q at, (i, cc (at_mapped (item_in raw) q.items i (raw_item.Literal text) f)))

literal_readable : (raw : RawGrammar) → IsReadable raw → (i : ℕ) (x : List ℕ) → slice_get (literals raw) i ≡ Some x
    → (1 ≤ length x) × Each (λ b. IsSeparator b → ⊥) x
literal_readable raw readable i x e = let w = literal_occurs raw.productions x (i, e) in
    readable w.0 w.1 w.2 w.3.0 (raw_item.Literal x) w.3.1

-- the classes
abbrev known_classes : List ℕ
known_classes = 0 ∷ 1 ∷ 2 ∷ []

abbrev uses : RawGrammar → ℕ → Bool
uses raw c = list_any (λ q. list_any (is_class c) q.items) raw.productions

class_at : (i d : ℕ) → i < 3 → get_or known_classes i d ≡ i
class_at zero d lt = refl
class_at (suc zero) d lt = refl
class_at (suc (suc zero)) d lt = refl
class_at (suc (suc (suc i))) d lt = absurd (omega arith)

classes_apart : Apart known_classes
classes_apart i j d lt within same = let low : i < 3 = omega arith in
    absurd (omega (arith, class_at i d low, same, class_at j d within))

class_known : (c : ℕ) → Has known_classes c → c < 3
class_known c (zero, e) = let z : 0 ≡ c = cc in omega arith
class_known c (suc zero, e) = let z : 1 ≡ c = cc in omega arith
class_known c (suc (suc zero), e) = let z : 2 ≡ c = cc in omega arith
class_known c (suc (suc (suc i)), e) = absurd (cc)

known_class : (c : ℕ) → c < 3 → Has known_classes c
known_class zero lt = (zero, refl)
known_class (suc zero) lt = (suc zero, refl)
known_class (suc (suc zero)) lt = (suc (suc zero), refl)
known_class (suc (suc (suc c))) lt = absurd (omega arith)

classes_differ : (raw : RawGrammar) → Differ (classes_of raw.productions)
classes_differ raw =
    apart_same (classes_of raw.productions) (AllPairs-filter (λ (a b : ℕ). a ≢ b) (uses raw) known_classes classes_apart)

class_used : (raw : RawGrammar) (i c : ℕ) → slice_get (classes_of raw.productions) i ≡ Some c → IsInUse (numbered raw) (Class c)
class_used raw i c e =
    let (p, q, at, (j, f)) = class_occurs raw.productions c (has_filter (uses raw) known_classes c (i, e)).1 in
    (p, produces raw q, at_mapped _ _ p q at, (j, at_mapped (item_in raw) q.items j (raw_item.Class c) f))

-- an item of a production is named
item_named : (raw : RawGrammar) (p : ℕ) (q : RawProduction) (i : ℕ) (x : RawItem) → slice_get raw.productions p ≡ Some q
    → slice_get q.items i ≡ Some x → IsReadableItem x → first_wrong (item_checks (symbols raw) x) ≡ None
    → IsNamedItem (numbered raw) (item_in raw x)
item_named raw p q i (raw_item.Name name) e f readable right = name_known (symbols raw) name right
item_named raw p q i (raw_item.Literal text) e f readable right =
    known (literals raw) text (literal_listed raw.productions p q i text e f)
item_named raw p q i (raw_item.Class c) e f readable right =
    filter_has (uses raw) known_classes c (known_class c readable) (occurs_class raw.productions p q i c e f)

items_named : (raw : RawGrammar) → IsReadable raw → first_wrong (unknown_checks (symbols raw) (resolved_productions raw)) ≡ None
    → Each (λ q. Each (IsNamedItem (numbered raw)) q.items) (numbered raw).productions
items_named raw readable h = each_mapped _ _ _ (λ p q e.
    let parts = unknown_parts (symbols raw) q (flat_at (unknown_in (symbols raw)) (resolves raw) raw.productions h p q e) in
    each_mapped _ _ _ (λ i x f. item_named raw p q i x e f (readable p q e i x f) (flat_each _ _ parts.1 i x f)))

abbrev AreListed : RawGrammar → Type 0
AreListed raw = Each (λ q. Each (λ r. is_below (length r.expr.occurrences) r.expr.tree ≡ true) q.rules) (numbered raw).productions

named : (raw : RawGrammar) → IsReadable raw → AreListed raw → first_wrong (naming_checks raw) ≡ None → IsNamed (numbered raw)
named raw readable listed h = let parts = naming_parts raw h in record {
  symbols_differ = symbols_differ raw.symbols parts.1;
  attributes_differ = attributes_differ raw.symbols parts.1;
  literals_differ = texts_differ (literals raw) (literals_apart raw.productions);
  literals_used = literal_used raw;
  without_separators = λ i x e. (literal_readable raw readable i x e).1;
  classes_differ = classes_differ raw;
  classes_known = λ i c e. class_known c (has_filter (uses raw) known_classes c (i, e)).0;
  classes_used = class_used raw;
  left_sides = lefts_known raw parts.0;
  items_named = items_named raw readable parts.0;
  rules_named = rules_named raw parts.0 listed;
}

-- the start symbol
abbrev start_number : RawGrammar → ℕ
start_number raw = number_in (declared_names (symbols raw)) raw.start.name

empty : {X : Type 0} (xs : List X) → length xs ≡ 0 → xs ≡ []
empty [] h = refl
empty (x ∷ xs) h = absurd (omega (arith, h))

starts : (raw : RawGrammar) → first_wrong (start_checks (symbols raw) raw.start) ≡ None → IsStart (numbered raw)
starts raw h =
    go (slice_get (symbols raw) (start_number raw)) refl
    (is_right (fault.BadStart, is_start (slice_get (symbols raw) (start_number raw))) h)
  where
    go : (o : Option Symbol) → slice_get (symbols raw) (start_number raw) ≡ o → is_start o ≡ true → IsStart (numbered raw)
    go None e h = absurd (cc)
    go (Some s) e h = let w = and_parts _ _ h in record {
      symbol = s;
      declared = e;
      plain = empty s.inh (eqb-true _ _ w.0);
      out = any_has s.syn out_name w.1;
    }

start_right : (raw : RawGrammar) → IsStart (numbered raw) → first_wrong (start_checks (symbols raw) raw.start) ≡ None
start_right raw start =
    right_is (fault.BadStart, is_start (slice_get (symbols raw) (start_number raw)))
    (rw (start.declared, start.plain, has_any start.symbol.syn out_name start.out) refl)

-- the checks of the references of a production
abbrev checks_in : RuleCheck → ResolvedProduction → List Check
checks_in x q = map (reference_check x) q.references

-- no check of N6 to N9 fails
abbrev Rules : RawGrammar → Type 0
Rules raw =
    (first_wrong (missing_checks (symbols raw) (resolved_productions raw)) ≡ None)
    × (first_wrong (doubled_rules (resolved_productions raw)) ≡ None)
    × (first_wrong (reference_checks rule_check.Defined (resolved_productions raw)) ≡ None)
    × (first_wrong (reference_checks rule_check.Used (resolved_productions raw)) ≡ None)

rule_parts : (raw : RawGrammar) → first_wrong (rule_kinds raw) ≡ None → Rules raw
rule_parts raw h =
    let qs = resolved_productions raw in
    let defined = reference_checks rule_check.Defined qs in
    let used = reference_checks rule_check.Used qs in
    let a = both_right (missing_checks (symbols raw) qs) (later_kinds qs) h in
    let b = both_right (doubled_rules qs ++ defined) used a.1 in
    let c = both_right (doubled_rules qs) defined b.0 in (a.0, c.0, c.1, b.1)

parts_rule : (raw : RawGrammar) → Rules raw → first_wrong (rule_kinds raw) ≡ None
parts_rule raw (missing, doubled, defined, used) = search (together)

missing_at_index : (raw : RawGrammar) → first_wrong (missing_checks (symbols raw) (resolved_productions raw)) ≡ None → (p : ℕ)
    (q : RawProduction) → slice_get raw.productions p ≡ Some q → first_wrong (missing_in (symbols raw) p (resolves raw q)) ≡ None
missing_at_index raw h p q e = let there : 0 + p ≡ p = omega arith in
    subst (λ n. first_wrong (missing_in (symbols raw) n (resolves raw q)) ≡ None) there
    (along_each (missing_in (symbols raw)) 0 (resolved_productions raw) h p (resolves raw q)
    (at_mapped (resolves raw) raw.productions p q e))

complete : (raw : RawGrammar) → first_wrong (unknown_checks (symbols raw) (resolved_productions raw)) ≡ None → Rules raw
    → Each (IsComplete (numbered raw)) (numbered raw).productions
complete raw h r = each_mapped _ _ _ (λ p q e.
    let known = rule_known raw q (flat_at (unknown_in (symbols raw)) (resolves raw) raw.productions h p q e) in
    let there : Each (λ (s : RawRule). IsThere raw q s.target) q.rules = λ i s f. (known i s f).0 in record {
      all = all_ruled raw p q (missing_at_index raw r.0 p q e);
      single = rules_single raw q there (flat_at doubled_in (resolves raw) raw.productions r.1 p q e);
      no_other = targets_given raw q there (flat_at (checks_in rule_check.Defined) (resolves raw) raw.productions r.2 p q e);
    })

normal : (raw : RawGrammar) → first_wrong (unknown_checks (symbols raw) (resolved_productions raw)) ≡ None → Rules raw
    → Each (IsNormal (numbered raw)) (numbered raw).productions
normal raw h r = each_mapped _ _ _ (λ p q e.
    let known = rule_known raw q (flat_at (unknown_in (symbols raw)) (resolves raw) raw.productions h p q e) in
    arguments_found raw q (λ i s f. (known i s f).1)
    (flat_at (checks_in rule_check.Used) (resolves raw) raw.productions r.3 p q e))

rules_of : (raw : RawGrammar) → Each (IsComplete (numbered raw)) (numbered raw).productions
    → Each (IsNormal (numbered raw)) (numbered raw).productions → Rules raw
rules_of raw complete normal =
    let whole = mapped_each (produces raw) (IsComplete (numbered raw)) raw.productions complete in
    let each_normal = mapped_each (produces raw) (IsNormal (numbered raw)) raw.productions normal in (
      each_along (missing_in (symbols raw)) 0 (resolved_productions raw) (λ p x e.
          let w = mapped_at (resolves raw) raw.productions p x e in
          subst (λ (y : ResolvedProduction). first_wrong (missing_in (symbols raw) (0 + p) y) ≡ None) w.2
          (ruled_all raw (0 + p) w.0 (whole p w.0 w.1).all)),
      at_flat doubled_in (resolves raw) raw.productions (λ p q e. single_rules raw q (whole p q e).single),
      at_flat (checks_in rule_check.Defined) (resolves raw) raw.productions (λ p q e.
          given_targets raw q (whole p q e).no_other),
      at_flat (checks_in rule_check.Used) (resolves raw) raw.productions (λ p q e. found_arguments raw q (each_normal p q e)),
    )

-- a test that holds of each element holds of all
pub all_hold : {X : Type 0} (test : X → Bool) (xs : List X) → ((i : ℕ) (x : X) → slice_get xs i ≡ Some x → test x ≡ true)
    → list_all test xs ≡ true
all_hold test [] h = refl
all_hold test (x ∷ xs) h = rw (h zero x refl) (all_hold test xs (λ i. h (suc i)))

-- a production has a place for each stored item, and one for its left side
places_long : (raw : RawGrammar) (q : RawProduction)
    → length (places_of (symbols raw) q) ≡ 1 + length (stored_items (produces raw q).items)
places_long raw q =
    let e = ap length (stored_same (declared_names (symbols raw)) (literals raw) q.items) in
    let f = ap length (places_same (symbols raw) q) in
    omega (arith, e, f, length-map (places_of (symbols raw) q) item_placed)

limits : (raw : RawGrammar) → IsReadable raw → first_wrong (limit_checks raw) ≡ None
    → IsWithinGrammarLimits (numbered raw)
limits raw readable h =
    let ss = symbols raw in
    let qs = raw.productions in
    let (symbol_count, (attributes, (production_count, (items, (children, (short, (literal_count, end))))))) =
    all_right (limit_checks raw) h in
    record {
      symbol_count = leb-true _ _ symbol_count;
      attribute_count = λ i x e. leb-true _ _ (passes_at few_attributes ss i x attributes e);
      production_count = rw (length-map qs (produces raw)) (leb-true _ _ production_count);
      item_count = each_mapped _ _ _ (λ i q e.
          rw (length-map q.items (item_in raw)) (leb-true _ _ (passes_at few_items qs i q items e)));
      stored_count = each_mapped _ _ _ (λ i q e.
          let few = passes_at few_children (resolved_productions raw) i (resolves raw q) children
          (at_mapped (resolves raw) qs i q e) in
          omega (arith, places_long raw q, leb-true (length (places_of ss q)) (1 + max_children) few));
      literal_count = leb-true _ _ literal_count;
      literal_bytes = λ i x e.
          ((literal_readable raw readable i x e).0, leb-true _ _ (passes_at is_short (literals raw) i x short e));
    }

within_limits : (raw : RawGrammar) → IsWithinGrammarLimits (numbered raw)
    → first_wrong (limit_checks raw) ≡ None
within_limits raw within =
    let ss = symbols raw in
    let qs = raw.productions in
    let few_children_stored =
    mapped_each (produces raw) (λ r. length (stored_items r.items) ≤ max_children) qs within.stored_count in
    rw (
      le-leb (length ss) max_symbols within.symbol_count,
      all_hold few_attributes ss (λ i x e. le-leb _ _ (within.attribute_count i x e)),
      le-leb (length qs) max_productions (rw (← length-map qs (produces raw)) within.production_count),
      all_hold few_items qs (λ i q e. le-leb _ _ (rw (← length-map q.items (item_in raw))
          (mapped_each (produces raw) (λ r. length r.items ≤ max_items) qs within.item_count i q e))),
      all_hold few_children (resolved_productions raw) (each_mapped (resolves raw) (λ r. few_children r ≡ true) qs (λ i q e.
          le-leb (length (places_of ss q)) (1 + max_children) (omega (arith, places_long raw q, few_children_stored i q e)))),
      all_hold is_short (literals raw) (λ i x e. le-leb _ _ (within.literal_bytes i x e).1),
      le-leb (length (literals raw)) max_literals within.literal_count,
    )

-- without a fault the numbered grammar is accepted
pub accepted : (raw : RawGrammar) → IsReadable raw → AreListed raw → HasNoFault raw → IsAccepted (numbered raw)
accepted raw readable listed none =
    let parts = naming_parts raw none.names in
    let further = both_right (rule_kinds raw) _ none.rules in
    let rules = rule_parts raw further.0 in
    record {
      named = named raw readable listed none.names;
      start = starts raw parts.2;
      complete = complete raw parts.0 rules;
      normal = normal raw parts.0 rules;
      productive = λ s lt. none.productive s (rw (← length-map raw.symbols symbol_of) lt);
      reachable = λ s lt. none.reached s (rw (← length-map raw.symbols symbol_of) lt);
      limits = limits raw readable further.1;
    }

-- a raw grammar whose numbered grammar is accepted has no fault
pub no_fault : (raw : RawGrammar) → IsAccepted (numbered raw) → HasNoFault raw
no_fault raw accepted =
    let unknown = named_known raw accepted.named in
    let doubled = differ_doubled raw.symbols accepted.named.symbols_differ accepted.named.attributes_differ in
    let started = start_right raw accepted.start in
    let rules = parts_rule raw (rules_of raw accepted.complete accepted.normal) in
    let limits = within_limits raw accepted.limits in
    record {
      names = search (together);
      productive = λ s lt. accepted.productive s (rw (length-map raw.symbols symbol_of) lt);
      reached = λ s lt. accepted.reachable s (rw (length-map raw.symbols symbol_of) lt);
      rules = search (together);
    }

-- without a fault the numbers are small
pub small : (raw : RawGrammar) → HasNoFault raw → IsSmall (symbols raw) (literals raw)
small raw none =
    let further = both_right (rule_kinds raw) _ none.rules in
    let (symbol_count, (attributes, (_, (_, (_, (_, (literal_count, end))))))) =
    all_right (limit_checks raw) further.1 in
    record { symbols = leb-true _ _ symbol_count; attributes = attributes; texts = leb-true _ _ literal_count }

-- a property of all elements holds of each
each_of : {X : Type 0} (P : X → Type 0) (xs : List X) → All P xs → Each P xs
each_of P xs all i x e = subst P (get_or_from_slice_get xs i x x e) (all i x (slice_get_within xs i x e))

listed_each : (qs : List Production) → All AreListedIn qs
    → Each (λ q. Each (λ r. is_below (length r.expr.occurrences) r.expr.tree ≡ true) q.rules) qs
listed_each qs all i q e = each_of IsListed q.rules (each_of AreListedIn qs all i q e)

-- the grammar that is made of the numbered parts is accepted
pub made : (raw : RawGrammar) → IsReadable raw → HasNoFault raw
    → (ss : List Symbol) (ps : List Production) (ls : List (List ℕ)) (cs : List ℕ) (st : ℕ) → ss ≡ symbols raw
    → ps ≡ map (produces raw) raw.productions → All AreListedIn ps
    → ls ≡ literals raw → cs ≡ classes_of raw.productions → st ≡ start_number raw
    → IsAccepted (record { symbols = ss; productions = ps; literals = ls; classes = cs; start = st })
made raw readable none ss ps ls cs st e f listed g h k =
    rw (e, f, g, h, k) (accepted raw readable (listed_each (numbered raw).productions (rw f at listed)) none)

-- a grammar that has a first fault has a fault
pub first_excludes : (raw : RawGrammar) (f : NormalFault) → IsFirstFault raw f → HasNoFault raw → ⊥
first_excludes raw f (in_names e) none = absurd (cc (e, none.names))
first_excludes raw f (in_productive n first) none =
    first.wrong (none.productive first.number (slice_get_within _ _ _ first.declared))
first_excludes raw f (in_reached n all first) none =
    first.wrong (none.reached first.number (slice_get_within _ _ _ first.declared))
first_excludes raw f (in_rules n all reached e) none = absurd (cc (e, none.rules))

refused : (raw : RawGrammar) (f : NormalFault) → IsFirstFault raw f → IsTrueOf raw f
refused raw f first = inr (first, λ accepted. first_excludes raw f first (no_fault raw accepted))

pub head_refused : (raw : RawGrammar) (f : NormalFault) → IsHead raw (Some f) → IsTrueOf raw f
head_refused raw f h = refused raw f (head_first raw f h)

pub accepted_without_fault : (raw : RawGrammar) → IsReadable raw → All AreListedIn (numbered raw).productions → HasNoFault raw
    → IsAccepted (numbered raw)
accepted_without_fault raw readable listed none = accepted raw readable (listed_each (numbered raw).productions listed) none

pub none_if_accepted : (raw : RawGrammar) → IsReadable raw → All AreListedIn (numbered raw).productions
    → AreFaults raw [] ↔ IsAccepted (numbered raw)
none_if_accepted raw readable listed = (
  λ none. accepted_without_fault raw readable listed (none_listed raw none),
  λ accepted. listed_none raw (no_fault raw accepted),
)
