-- Names are known and distinct exactly if the numbered grammar's are. The names of an item or a rule are *known* if the checks of
-- N1 hold. Its numbered form is *named* if its numbers are in range (`IsNamedItem`, `IsNamedRule` of `ag_grammar`).
use Rattle.normalform.proofs.Common
use Common.{ℕ, ◌≡◌, ◌<◌, not, true, nat_lt, ltb-true, lt-ltb, slice_get, Some, List, [], ◌∷◌, ◌++◌, length, map, flat_map, None}
use Common.{◌∙◌, ap, bytes_eq, refl, sym, subst, length-map, map-append, map-id, Each, DifferIn, Differ, AreRelated, Symbol, Target, Occ}
use Common.{attribute_names, RefersTo, is_below, Named, RawGrammar, RawItem, RawProduction, RawRule, RawSymbol, NormalFault, Check}
use Common.{first_wrong, doubled_names, doubled_checks, unknown_in, unknown_checks, number_in, symbol_of, declared_names, item_of}
use Common.{target_of, rule_of, literals_of, numbered, placed, at_mapped, mapped_at, PlacedItem, item_placed, places_of}
use Common.{place_checks, reference_check, resolved_production, resolved_productions, is_unknown}
use Common.raw_item
use Common.item
use Common.fault
use Common.rule_check
use Common.placed_item
use Rattle.ag_grammar.specs.grammars.Accepted.{IsNamed, IsNamedItem, IsNamedRule}
use Rattle.normalform.proofs.found.Apart.{Apart, none_apart, apart_along, more_along, along_apart, apart_differ, differ_apart}
use Rattle.normalform.proofs.numbered.Listed.{decides_texts}
use Rattle.normalform.proofs.numbered.Placing.{IsThere, places_same, role_in, role_is, there_if, stands_for, name_there, kind_known}
use Rattle.normalform.proofs.found.Reduced.{symbols, produces, places, resolves, name_check, item_checks, name_known}
use Rattle.normalform.proofs.found.Reduced.{unknown_parts, parts_unknown}
use Rattle.normalform.proofs.found.Right.{both_right, is_right, right_is, flat_each, each_flat, flat_at, at_flat, each_mapped}
use Rattle.normalform.proofs.found.Right.{mapped_each}
use Rattle.normalform.proofs.found.Ruled.{differ_mapped, mapped_differ, rule_right, right_rules}

abbrev named_text : Named → List ℕ
named_text n = n.name

abbrev symbol_text : RawSymbol → List ℕ
symbol_text s = s.name.name

abbrev attributes : RawSymbol → List Named
attributes s = s.syn ++ s.inh

abbrev doubled_symbol : RawSymbol → NormalFault
doubled_symbol s = fault.DoubledName s.name.at

abbrev doubled_attribute : Named → NormalFault
doubled_attribute n = fault.DoubledName n.at

abbrev attribute_checks : RawSymbol → List Check
attribute_checks s = doubled_names [] (attributes s)

-- no symbol is declared twice
pub symbols_differ : (ss : List RawSymbol) → first_wrong (doubled_checks ss) ≡ None → DifferIn (λ s. s.name) (map symbol_of ss)
symbols_differ ss h = differ_mapped symbol_of (λ (s : Symbol). s.name) ss (apart_differ symbol_text ss
    (apart_along bytes_eq doubled_symbol symbol_text attribute_checks decides_texts [] ss none_apart h))

names_same : (s : RawSymbol) → map named_text (attributes s) ≡ attribute_names (symbol_of s)
names_same s = map-append named_text s.syn s.inh

pub texts_differ : (texts : List (List ℕ)) → Apart texts → Differ texts
texts_differ texts apart = apart_differ (λ x. x) texts (rw (map-id texts) apart)

pub attributes_differ : (ss : List RawSymbol) → first_wrong (doubled_checks ss) ≡ None
    → Each (λ s. Differ (attribute_names s)) (map symbol_of ss)
attributes_differ ss h = each_mapped _ _ _ (λ i s e.
    let here = more_along bytes_eq doubled_symbol symbol_text attribute_checks [] ss h i s e in
    texts_differ (attribute_names (symbol_of s)) (rw (← names_same s)
    (apart_along bytes_eq doubled_attribute named_text (λ n. []) decides_texts [] (attributes s) none_apart here)))

differ_texts : (texts : List (List ℕ)) → Differ texts → Apart texts
differ_texts texts differ = rw (map-id texts) at (differ_apart (λ x. x) texts differ)

pub differ_doubled : (ss : List RawSymbol) → DifferIn (λ s. s.name) (map symbol_of ss)
    → Each (λ s. Differ (attribute_names s)) (map symbol_of ss) → first_wrong (doubled_checks ss) ≡ None
differ_doubled ss differ each =
    along_apart bytes_eq doubled_symbol symbol_text attribute_checks decides_texts [] ss
    (differ_apart symbol_text ss (mapped_differ symbol_of (λ (s : Symbol). s.name) ss differ))
    (λ i s e. along_apart bytes_eq doubled_attribute named_text (λ n. []) decides_texts [] (attributes s)
    (rw (names_same s)
    (differ_texts (attribute_names (symbol_of s)) (mapped_each symbol_of (λ t. Differ (attribute_names t)) ss each i s e)))
    (λ j x f. refl))

-- without N1 the symbols at places are declared
places_shown : (ss : List Symbol) (q : RawProduction) → first_wrong (unknown_in ss (resolved_production ss q)) ≡ None → (i s : ℕ)
    → slice_get (placed ss q) i ≡ Some (item.Symbol s) → s < length ss
places_shown ss q h i s e =
    let xs = places_of ss q in
    let w = mapped_at item_placed xs i (item.Symbol s) (ap (λ ys. slice_get ys i) (places_same ss q) ∙ e) in
    go w.0 (flat_each (place_checks ss) xs (both_right (flat_map (place_checks ss) xs) _ h).0 i w.0 w.1) w.2
  where
    go : (x : PlacedItem) → first_wrong (place_checks ss x) ≡ None → item_placed x ≡ item.Symbol s → s < length ss
    go (placed_item.Symbol n at) h is =
        let same : n ≡ s = cc in
        rw same at (ltb-true n (length ss) (is_right (fault.UnknownName at, nat_lt n (length ss)) h))
    go (placed_item.Class c) h is = absurd (cc)

module _ (raw : RawGrammar) (q : RawProduction) where
  abbrev target : Occ → Target
  target o = target_of (symbols raw) (places raw q) o

  related : (os : List Occ) → Each (IsThere raw q) os → AreRelated (RefersTo (numbered raw) (produces raw q)) os (map target os)
  related os h = record {
    equally_long = sym (length-map os target);
    each = λ i o t e f.
        let w = mapped_at target os i t f in
        let same : w.0 ≡ o = cc in
        let here : target o ≡ t = rw (← same) w.2 in
        subst (RefersTo (numbered raw) (produces raw q) o) here (stands_for raw q o (h i o e));
  }

  -- the targets and arguments of rules exist
  pub rule_known : first_wrong (unknown_in (symbols raw) (resolves raw q)) ≡ None → (i : ℕ) (r : RawRule)
      → slice_get q.rules i ≡ Some r → IsThere raw q r.target × Each (IsThere raw q) r.expr.occurrences
  rule_known h i r e =
      let w = rule_right raw q rule_check.Known (unknown_parts (symbols raw) q h).2 i r e in (
        there_if raw q r.target (places_shown (symbols raw) q h r.target.place) w.0,
        λ j o f. there_if raw q o (places_shown (symbols raw) q h o.place) (w.1 j o f),
      )

  -- a rule whose names are known is named, and the converse
  rule_named : (r : RawRule) → IsThere raw q r.target × Each (IsThere raw q) r.expr.occurrences
      → is_below (length r.expr.occurrences) r.expr.tree ≡ true
      → IsNamedRule (numbered raw) (produces raw q) (rule_of (symbols raw) (places raw q) r)
  rule_named r there listed = record {
    target = there.0;
    listed = listed;
    arguments = related r.expr.occurrences there.1;
  }

  passes : (o : Occ) → IsThere raw q o → not (is_unknown (role_in raw q o)) ≡ true
  passes o (k, h) = rw (role_is raw q o k h) (kind_known k o.place)

  named_rules : Each (λ r. IsNamedRule (numbered raw) (produces raw q) (rule_of (symbols raw) (places raw q) r)) q.rules
      → first_wrong (map (reference_check rule_check.Known) (resolves raw q).references) ≡ None
  named_rules named = right_rules raw q rule_check.Known (λ i r e. let w = named i r e in (
    passes r.target w.target,
    λ j o f. passes o
        (name_there raw q o (w.arguments.each j o (target o) f (at_mapped target r.expr.occurrences j o f))),
  ))

name_right : (ss : List Symbol) (name : Named) → number_in (declared_names ss) name.name < length ss
    → first_wrong (name_check ss name ∷ []) ≡ None
name_right ss name lt = right_is (name_check ss name) (lt-ltb _ _ lt)

-- left sides are symbols
pub lefts_known : (raw : RawGrammar) → first_wrong (unknown_checks (symbols raw) (resolved_productions raw)) ≡ None
    → Each (λ q. q.left < length (symbols raw)) (numbered raw).productions
lefts_known raw h = each_mapped _ _ _ (λ i q e.
    name_known (symbols raw) q.left
    (unknown_parts (symbols raw) q (flat_at (unknown_in (symbols raw)) (resolves raw) raw.productions h i q e)).0)

-- rules are named
pub rules_named : (raw : RawGrammar) → first_wrong (unknown_checks (symbols raw) (resolved_productions raw)) ≡ None
    → Each (λ q. Each (λ r. is_below (length r.expr.occurrences) r.expr.tree ≡ true) q.rules) (numbered raw).productions
    → Each (λ q. Each (IsNamedRule (numbered raw) q) q.rules) (numbered raw).productions
rules_named raw h listed = each_mapped (produces raw) (λ q. Each (IsNamedRule (numbered raw) q) q.rules) raw.productions (λ p q e.
    let known = flat_at (unknown_in (symbols raw)) (resolves raw) raw.productions h p q e in
    each_mapped (rule_of (symbols raw) (placed (symbols raw) q)) (IsNamedRule (numbered raw) (produces raw q)) q.rules (λ i r f.
    rule_named raw q r (rule_known raw q known i r f)
    (mapped_each (rule_of (symbols raw) (placed (symbols raw) q)) (λ s. is_below (length s.expr.occurrences) s.expr.tree ≡ true)
    q.rules (mapped_each (produces raw) (λ s. Each (λ r. is_below (length r.expr.occurrences) r.expr.tree ≡ true) s.rules)
    raw.productions listed p q e) i r f)))

-- the names of a named grammar are known
item_right : (raw : RawGrammar) (x : RawItem)
    → IsNamedItem (numbered raw) (item_of (declared_names (symbols raw)) (literals_of raw.productions) x)
    → first_wrong (item_checks (symbols raw) x) ≡ None
item_right raw (raw_item.Name name) lt = name_right (symbols raw) name lt
item_right raw (raw_item.Literal text) lt = refl
item_right raw (raw_item.Class c) lt = refl

pub named_known : (raw : RawGrammar) → IsNamed (numbered raw)
    → first_wrong (unknown_checks (symbols raw) (resolved_productions raw)) ≡ None
named_known raw named = at_flat (unknown_in (symbols raw)) (resolves raw) raw.productions (λ p q e.
    let items_named = mapped_each (produces raw) (λ r. Each (IsNamedItem (numbered raw)) r.items) _ named.items_named p q e in
    let rules_named = mapped_each (produces raw) (λ s. Each (IsNamedRule (numbered raw) s) s.rules) _ named.rules_named p q e in
    parts_unknown (symbols raw) q (
      name_right (symbols raw) q.left (mapped_each _ _ _ named.left_sides p q e),
      each_flat (item_checks (symbols raw)) q.items (λ i x f. item_right raw x (mapped_each _ _ _ items_named i x f)),
      named_rules raw q
          (mapped_each (rule_of (symbols raw) (placed (symbols raw) q)) (IsNamedRule (numbered raw) (produces raw q)) q.rules
          rules_named),
    ))
