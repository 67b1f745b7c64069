-- The faults of a raw grammar, kind by kind, and their order (this project's). In a grammar without N4 and N5 each symbol is
-- productive and reached (the textbook). A grammar without N1 and without N6 to N8 is complete (Knuth, 1968), and one without N1
-- and N9 is normal (Bochmann, 1976). Each kind but N4 and N5 is a list of checks. The checks of N6 are ordered by production,
-- place and attribute, those of N10 as in `LimitKind`, and other checks as the raw grammar's lists. N4 and N5 name the first wrong
-- symbol. The checks of N1 and of N6 to N9 are about resolved productions.
-- In this file, `ss` are the declared symbols, `names` the names of symbols or of attributes, `qs` productions, `q` one of them and
-- `p` its number, `o` a reference, and `ts` targets of rules.
use Rattle.std.specs.Prelude.{All, ℕ, zero, suc, cond, fold, ◌⊎◌, ◌+◌, ◌≡◌, ◌<◌, ◌≤◌, nat_eq, nat_le, nat_lt, not, Bool, true, false}
use Rattle.std.specs.Prelude.{◌&&◌, ◌||◌, List, [], ◌∷◌, ◌++◌, length, map, flat_map, find, Option, Some, None, bytes_eq}
use Rattle.std.specs.Prelude.{slice_get}
use Rattle.std.specs.List.{list_any, list_all, range_with_len}
use Rattle.std.specs.Option.{option_map}
use Rattle.ag_grammar.specs.Lists.{Each}
use Rattle.ag_grammar.specs.declared.grammar.Item.{Item}
use Rattle.ag_grammar.specs.declared.grammar.Item.TheVariants as item
use Rattle.ag_grammar.specs.declared.grammar.Production.{Production}
use Rattle.ag_grammar.specs.declared.grammar.Rule.{Rule}
use Rattle.ag_grammar.specs.declared.grammar.Symbol.{Symbol}
use Rattle.ag_grammar.specs.declared.grammar.Target.{Target}
use Rattle.ag_grammar.specs.grammars.Accepted.{IsAccepted, IsProductive, IsReached, IsSeparator, class_count, out_name}
use Rattle.ag_grammar.specs.grammars.Accepted.{max_symbols, max_attributes, max_productions, max_items, max_children}
use Rattle.ag_grammar.specs.grammars.Accepted.{max_literals, max_literal_bytes}
use Rattle.ag_grammar.specs.grammars.AttributeGrammar.{attribute_names}
use Rattle.ag_grammar.specs.expressions.Trees.{is_below}
use Rattle.ag_grammar.specs.declared.raw.Named.{Named}
use Rattle.ag_grammar.specs.declared.raw.RawGrammar.{RawGrammar}
use Rattle.ag_grammar.specs.declared.raw.RawItem.{RawItem}
use Rattle.ag_grammar.specs.declared.raw.RawItem.TheVariants as raw_item
use Rattle.ag_grammar.specs.declared.raw.RawProduction.{RawProduction}
use Rattle.ag_grammar.specs.declared.raw.RawSymbol.{RawSymbol}
use Rattle.normalform.specs.declared.fault.LimitKind.TheVariants as limit
use Rattle.normalform.specs.declared.fault.NormalFault.{NormalFault}
use Rattle.normalform.specs.declared.fault.NormalFault.TheVariants as fault
use Rattle.normalform.specs.declared.faults.reference_checks.RuleCheck.{RuleCheck}
use Rattle.normalform.specs.declared.faults.reference_checks.RuleCheck.TheVariants as rule_check
use Rattle.normalform.specs.declared.faults.resolved.PlacedItem.{PlacedItem}
use Rattle.normalform.specs.declared.faults.resolved.PlacedItem.TheVariants as placed_item
use Rattle.normalform.specs.declared.faults.resolved.Reference.{Reference}
use Rattle.normalform.specs.declared.faults.resolved.ResolvedProduction.{ResolvedProduction}
use Rattle.normalform.specs.declared.faults.resolved.Role.{Role}
use Rattle.normalform.specs.declared.faults.resolved.Role.TheVariants as role
use Rattle.normalform.specs.faults.Resolved.{item_placed, resolved_productions}
use Rattle.normalform.specs.numbers.Numbers.{symbol_of, declared_names, with_text, number_in, literals_of, numbered}

-- A check: the fault to report if it fails, and whether it holds.
abbrev pub Check : Type 0
Check = NormalFault × Bool

-- the fault of the first check that fails
abbrev pub first_wrong : List Check → Option NormalFault
first_wrong checks = option_map (λ x. x.0) (find (λ x. not x.1) checks)

-- the checks along a list: f gives those of an element x in the state s, and g the state after x
abbrev pub checks_along : {S X : Type 0} → (S → X → List Check) → (S → X → S) → S → List X → List Check
checks_along f g s [] = []
checks_along f g s (x ∷ xs) = f s x ++ checks_along f g (g s x) xs

-- whether an attribute does not exist, whether rules may use it, and whether they define it
abbrev pub is_unknown : Role → Bool
is_unknown role.Defined = false
is_unknown role.Used = false
is_unknown role.Unknown = true
is_unknown role.Hidden = false

abbrev pub is_used : Role → Bool
is_used role.Defined = false
is_used role.Used = true
is_used role.Unknown = false
is_used role.Hidden = false

abbrev pub is_defined : Role → Bool
is_defined role.Defined = true
is_defined role.Used = false
is_defined role.Unknown = false
is_defined role.Hidden = false

-- whether an attribute exists
abbrev pub is_there : Role → Bool
is_there r = is_defined r || is_used r

-- N1, N8, N9. Whether a reference passes a check. N8 is about targets, N9 about arguments. An attribute that does not exist, or
-- whose symbol is not declared, passes both.
abbrev pub holds : RuleCheck → Reference → Bool
holds rule_check.Known o = not (is_unknown o.role)
holds rule_check.Defined o = not o.is_target || not (is_used o.role)
holds rule_check.Used o = o.is_target || not (is_defined o.role)

-- the fault of a reference at an offset that does not pass
abbrev pub fault_at : RuleCheck → ℕ → NormalFault
fault_at rule_check.Known at = fault.UnknownName at
fault_at rule_check.Defined at = fault.NotDefinedHere at
fault_at rule_check.Used at = fault.NotNormal at

-- the check of a reference
abbrev pub reference_check : RuleCheck → Reference → Check
reference_check x o = (fault_at x o.at, holds x o)

-- all checks of N8, or of N9
abbrev pub reference_checks : RuleCheck → List ResolvedProduction → List Check
reference_checks x qs = flat_map (λ q. map (reference_check x) q.references) qs

-- N1. The checks of the item at a place: a symbol is declared.
abbrev pub place_checks : List Symbol → PlacedItem → List Check
place_checks ss (placed_item.Symbol s at) = (fault.UnknownName at, nat_lt s (length ss)) ∷ []
place_checks ss (placed_item.Class c) = []

-- N1. The checks of a production: of its left side and its items, then of its rules.
abbrev pub unknown_in : List Symbol → ResolvedProduction → List Check
unknown_in ss q = flat_map (place_checks ss) q.places ++ map (reference_check rule_check.Known) q.references

-- all checks of N1
abbrev pub unknown_checks : List Symbol → List ResolvedProduction → List Check
unknown_checks ss qs = flat_map (unknown_in ss) qs

-- N2. The check of a declared name: it is not one of the earlier names, which are `seen`.
abbrev pub new_check : List (List ℕ) → Named → List Check
new_check seen name = (fault.DoubledName name.at, not (list_any (bytes_eq name.name) seen)) ∷ []

-- the seen names, and this name
abbrev pub with_name : List (List ℕ) → Named → List (List ℕ)
with_name seen name = with_text seen name.name

-- N2. The checks of a list of names. `seen` has the names that precede the list.
abbrev pub doubled_names : List (List ℕ) → List Named → List Check
doubled_names seen names = checks_along new_check with_name seen names

-- N2. The checks of a symbol: of its name, then of its attributes, which are compared only with each other.
abbrev pub symbol_checks : List (List ℕ) → RawSymbol → List Check
symbol_checks seen s = new_check seen s.name ++ doubled_names [] (s.syn ++ s.inh)

-- the seen names of symbols, and that of this symbol
abbrev pub with_symbol : List (List ℕ) → RawSymbol → List (List ℕ)
with_symbol seen s = with_text seen s.name.name

-- all checks of N2
abbrev pub doubled_checks : List RawSymbol → List Check
doubled_checks ss = checks_along symbol_checks with_symbol [] ss

-- N3. The start symbol is declared, has no inherited attribute, and has a synthesized one named `out`.
abbrev pub is_start : Option Symbol → Bool
is_start None = false
is_start (Some s) = nat_eq (length s.inh) 0 && list_any (bytes_eq out_name) s.syn

-- the check of N3, of the start symbol's name
abbrev pub start_checks : List Symbol → Named → List Check
start_checks ss name = (fault.BadStart, is_start (slice_get ss (number_in (declared_names ss) name.name))) ∷ []

-- N4, N5. `name` is that of the first symbol in `ss` whose number does not have the property P.
pub record IsFirstNot (P : ℕ → Type 0) (ss : List RawSymbol) (name : Named) : Type 0 where
  pub number : ℕ
  pub symbol : RawSymbol
  pub declared : slice_get ss number ≡ Some symbol
  pub named : symbol.name ≡ name
  pub wrong : P number → ⊥
  pub before : (t : ℕ) → t < number → P t

-- N6. The numbers of the attributes that the rules of a production define at a place: the synthesized ones at
-- place 0, the inherited ones at a later place.
abbrev pub numbers_defined : ℕ → Symbol → List ℕ
numbers_defined zero s = range_with_len 0 (length s.syn)
numbers_defined (suc i) s = range_with_len (length s.syn) (length s.inh)

-- the same for the item at a place; a token has none
abbrev pub defined_at : List Symbol → ℕ → Item → List ℕ
defined_at ss place (item.Symbol s) = elim (slice_get ss s) [ Some x ↦ numbers_defined place x | None ↦ [] ]
defined_at ss place (item.Terminal a) = []

-- whether two targets are the same
abbrev pub same_target : Target → Target → Bool
same_target a b = nat_eq a.place b.place && nat_eq a.attr b.attr

-- one more target, unless it is there already
abbrev pub with_target : List Target → Target → List Target
with_target ts t = cond (list_any (same_target t) ts) ts (ts ++ t ∷ [])

-- the attribute of a reference
abbrev pub target : Reference → Target
target o = record { place = o.place; attr = o.attr }

-- the targets so far, and that of a rule unless it is there already; o may also be an argument
abbrev pub with_reference : List Target → Reference → List Target
with_reference ts o = cond o.is_target (with_target ts (target o)) ts

-- the targets of rules, each once
abbrev pub targets_of : List Reference → List Target
targets_of os = fold with_reference [] os

-- the check that attribute a at a place of production p has a rule: it is one of the targets ts of the production's rules
abbrev pub missing_check : List Target → ℕ → ℕ → ℕ → Check
missing_check ts p place a = (fault.RuleMissing p place a, list_any (same_target (record { place = place; attr = a })) ts)

-- the checks of the attributes that rules must define at a place of production p; x is the item at the place
abbrev pub missing_at : List Symbol → List Target → ℕ → ℕ → Item → List Check
missing_at ss ts p place x = map (missing_check ts p place) (defined_at ss place x)

-- for `checks_along`, if the state is the index of an element: the index of the next element
abbrev pub next_index : {X : Type 0} → ℕ → X → ℕ
next_index n x = n + 1

-- the checks of a production: place by place
abbrev pub missing_in : List Symbol → ℕ → ResolvedProduction → List Check
missing_in ss p q = checks_along (missing_at ss (targets_of q.references) p) next_index 0 (map item_placed q.places)

-- all checks of N6
abbrev pub missing_checks : List Symbol → List ResolvedProduction → List Check
missing_checks ss qs = checks_along (missing_in ss) next_index 0 qs

-- whether a reference is not one of the targets ts, or no target
abbrev pub is_fresh : List Target → Reference → Bool
is_fresh ts o = not o.is_target || not (list_any (same_target (target o)) ts)

-- N7. The check of a rule's target: no earlier rule of the production has the same target, or the target does not exist.
abbrev pub new_target : List Target → Reference → List Check
new_target ts o = (fault.RuleDoubled o.at, is_fresh ts o || not (is_there o.role)) ∷ []

-- N7. The checks of the rules of a production.
abbrev pub doubled_in : ResolvedProduction → List Check
doubled_in q = checks_along new_target with_reference [] q.references

-- all checks of N7
abbrev pub doubled_rules : List ResolvedProduction → List Check
doubled_rules qs = flat_map doubled_in qs

-- N10. A symbol has at most 16 attributes (`max_attributes`).
abbrev pub few_attributes : Symbol → Bool
few_attributes s = nat_le (length (attribute_names s)) max_attributes

-- a right side has at most 64 items (`max_items`)
abbrev pub few_items : RawProduction → Bool
few_items q = nat_le (length q.items) max_items

-- a right side has at most 16 children (`max_children`); a production has one place more, the left side
abbrev pub few_children : ResolvedProduction → Bool
few_children q = nat_le (length q.places) (1 + max_children)

-- a literal has at most 255 bytes (`max_literal_bytes`)
abbrev pub is_short : List ℕ → Bool
is_short text = nat_le (length text) max_literal_bytes

-- the checks of the limits of symbols, of productions, and of the different literals
abbrev pub symbol_limits : List Symbol → List Check
symbol_limits ss =
    (fault.Limit limit.Symbols, nat_le (length ss) max_symbols) ∷ (fault.Limit limit.Attributes, list_all few_attributes ss) ∷ []

abbrev pub production_limits : List RawProduction → List ResolvedProduction → List Check
production_limits qs resolved =
    (fault.Limit limit.Productions, nat_le (length qs) max_productions)
    ∷ (fault.Limit limit.Items, list_all few_items qs)
    ∷ (fault.Limit limit.Stored, list_all few_children resolved)
    ∷ []

abbrev pub literal_limits : List (List ℕ) → List Check
literal_limits texts =
    (fault.Limit limit.LiteralLength, list_all is_short texts) ∷ (fault.Limit limit.Literals, nat_le (length texts) max_literals)
    ∷ []

-- all checks of N10
abbrev pub limit_checks : RawGrammar → List Check
limit_checks raw =
    symbol_limits (map symbol_of raw.symbols) ++ production_limits raw.productions (resolved_productions raw)
    ++ literal_limits (literals_of raw.productions)

-- the checks of N1 to N3: names, and the start symbol
abbrev pub naming_checks : RawGrammar → List Check
naming_checks raw = let ss = map symbol_of raw.symbols in
    unknown_checks ss (resolved_productions raw) ++ doubled_checks raw.symbols ++ start_checks ss raw.start

-- the checks of N7 to N9
abbrev pub later_kinds : List ResolvedProduction → List Check
later_kinds qs = doubled_rules qs ++ reference_checks rule_check.Defined qs ++ reference_checks rule_check.Used qs

-- the checks of N6 to N9: rules
abbrev pub rule_kinds : RawGrammar → List Check
rule_kinds raw = let qs = resolved_productions raw in missing_checks (map symbol_of raw.symbols) qs ++ later_kinds qs

-- the checks of N6 to N10
abbrev pub further_checks : RawGrammar → List Check
further_checks raw = rule_kinds raw ++ limit_checks raw

-- the number of each declared symbol has the property P
abbrev pub AreAll : (ℕ → Type 0) → RawGrammar → Type 0
AreAll P raw = (s : ℕ) → s < length raw.symbols → P s

-- The first fault: the first check that fails, or the first wrong symbol (N4, N5), of the first kind that has one.
pub data IsFirstFault (raw : RawGrammar) : NormalFault → Type 0 where
  in_names : {f : NormalFault} → first_wrong (naming_checks raw) ≡ Some f → IsFirstFault raw f
  in_productive : {name : Named} → first_wrong (naming_checks raw) ≡ None
      → IsFirstNot (IsProductive (numbered raw)) raw.symbols name → IsFirstFault raw (fault.Unproductive name)
  in_reached : {name : Named} → first_wrong (naming_checks raw) ≡ None → AreAll (IsProductive (numbered raw)) raw
      → IsFirstNot (IsReached (numbered raw)) raw.symbols name
      → IsFirstFault raw (fault.Unreachable name)
  in_rules : {f : NormalFault} → first_wrong (naming_checks raw) ≡ None → AreAll (IsProductive (numbered raw)) raw
      → AreAll (IsReached (numbered raw)) raw → first_wrong (further_checks raw) ≡ Some f
      → IsFirstFault raw f

-- No kind has a fault.
pub record HasNoFault (raw : RawGrammar) : Type 0 where
  pub names : first_wrong (naming_checks raw) ≡ None
  pub productive : AreAll (IsProductive (numbered raw)) raw
  pub reached : AreAll (IsReached (numbered raw)) raw
  pub rules : first_wrong (further_checks raw) ≡ None

-- A readable item: a literal that is not empty and has no separator, a class that is NAME, NUMBER or TEXT, or any name of a
-- symbol.
abbrev pub IsReadableItem : RawItem → Type 0
IsReadableItem (raw_item.Name name) = Unit {0}
IsReadableItem (raw_item.Literal text) = (1 ≤ length text) × Each (λ b. IsSeparator b → ⊥) text
IsReadableItem (raw_item.Class c) = c < class_count

-- The items of a raw grammar are readable. This holds of each raw grammar that was read from a text.
abbrev pub IsReadable : RawGrammar → Type 0
IsReadable raw = Each (λ q. Each IsReadableItem q.items) raw.productions

-- each occurrence in a rule's expression is in the expression's list of occurrences, and the expression has no unbound name
abbrev pub IsListed : Rule → Type 0
IsListed r = is_below (length r.expr.occurrences) r.expr.tree ≡ true

-- the same for each rule of a production
abbrev pub AreListedIn : Production → Type 0
AreListedIn q = All IsListed q.rules

-- The symbols, attributes and literals are within the limits, so that their numbers have 16 bits.
pub record IsSmall (ss : List Symbol) (literals : List (List ℕ)) : Type 0 where
  pub symbols : length ss ≤ max_symbols
  pub attributes : list_all few_attributes ss ≡ true
  pub texts : length literals ≤ max_literals

-- a fault that `check` may return: it is the first one and the numbered grammar is not accepted, or it is `NoMemory`
abbrev pub IsTrueOf : RawGrammar → NormalFault → Type 0
IsTrueOf raw f = (f ≡ fault.NoMemory) ⊎ (IsFirstFault raw f × (IsAccepted (numbered raw) → ⊥))
