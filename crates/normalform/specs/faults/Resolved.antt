-- Resolved productions (this project's): the names of a raw grammar are replaced by numbers, as `Numbers` defines them, and offsets
-- are kept for the faults. In this file, `ss` are the declared symbols, `names` their names, `q` is a production, `items` the items
-- at its places, `r` a rule, `o` an occurrence, and `a` the number of an attribute.
use Rattle.std.specs.Prelude.{ℕ, zero, suc, ◌-◌, nat_lt, cond, Bool, true, false, List, [], ◌∷◌, map, flat_map, Option, Some, None}
use Rattle.std.specs.Prelude.{slice_get}
use Rattle.ag_grammar.specs.declared.grammar.Item.{Item}
use Rattle.ag_grammar.specs.declared.grammar.Item.TheVariants as item
use Rattle.ag_grammar.specs.declared.grammar.Symbol.{Symbol}
use Rattle.ag_grammar.specs.declared.grammar.Terminal.TheVariants.{Class}
use Rattle.ag_grammar.specs.declared.syntax.occurrence.Occ.{Occ}
use Rattle.ag_grammar.specs.grammars.AttributeGrammar.{Kind, Synthesized, Inherited, symbol_kinds, item_kinds}
use Rattle.ag_grammar.specs.declared.raw.RawGrammar.{RawGrammar}
use Rattle.ag_grammar.specs.declared.raw.RawItem.{RawItem}
use Rattle.ag_grammar.specs.declared.raw.RawItem.TheVariants as raw_item
use Rattle.ag_grammar.specs.declared.raw.RawProduction.{RawProduction}
use Rattle.ag_grammar.specs.declared.raw.RawRule.{RawRule}
use Rattle.normalform.specs.declared.faults.resolved.PlacedItem.{PlacedItem}
use Rattle.normalform.specs.declared.faults.resolved.PlacedItem.TheVariants as placed_item
use Rattle.normalform.specs.declared.faults.resolved.Reference.{Reference}
use Rattle.normalform.specs.declared.faults.resolved.ResolvedProduction.{ResolvedProduction}
use Rattle.normalform.specs.declared.faults.resolved.Role.{Role}
use Rattle.normalform.specs.declared.faults.resolved.Role.TheVariants as role
use Rattle.normalform.specs.numbers.Numbers.{number_in, declared, declared_names, placed, symbol_of, target_of}

-- an item of a right side, if it has a place; a literal has none
abbrev pub place_of : List (List ℕ) → RawItem → List PlacedItem
place_of names (raw_item.Name name) = placed_item.Symbol (number_in names name.name) name.at ∷ []
place_of names (raw_item.Literal text) = []
place_of names (raw_item.Class c) = placed_item.Class c ∷ []

-- the items at the places of a production, the left side first
abbrev pub places_of : List Symbol → RawProduction → List PlacedItem
places_of ss q =
    placed_item.Symbol (number_in (declared_names ss) q.left.name) q.left.at ∷ flat_map (place_of (declared_names ss)) q.items

-- the item at a place, without its offset
abbrev pub item_placed : PlacedItem → Item
item_placed (placed_item.Symbol s at) = item.Symbol s
item_placed (placed_item.Class c) = item.Terminal (Class c)

-- the kind of attribute a of a symbol with m synthesized and n inherited attributes
abbrev pub kind_at : ℕ → ℕ → ℕ → Option Kind
kind_at m n a = cond (nat_lt a m) (Some Synthesized) (cond (nat_lt (a - m) n) (Some Inherited) None)

-- The role of an attribute of this kind at a place. The rules of a production define the synthesized ones at place 0 and the
-- inherited ones at a later place, and may use the others (Knuth, 1968; Bochmann, 1976).
abbrev pub role_of : Option Kind → ℕ → Role
role_of None place = role.Unknown
role_of (Some Synthesized) zero = role.Defined
role_of (Some Synthesized) (suc i) = role.Used
role_of (Some Inherited) zero = role.Used
role_of (Some Inherited) (suc i) = role.Defined

-- the role of attribute a of a symbol at a place; `None` is a symbol that is not declared
abbrev pub symbol_role : Option Symbol → ℕ → ℕ → Role
symbol_role None a place = role.Hidden
symbol_role (Some s) a place = role_of (slice_get (symbol_kinds (Some s)) a) place

-- the role of attribute a of the item at a place; `None` is a place that does not exist
abbrev pub item_role : List Symbol → Option Item → ℕ → ℕ → Role
item_role ss None a place = role.Unknown
item_role ss (Some (item.Symbol s)) a place = symbol_role (slice_get ss s) a place
item_role ss (Some (item.Terminal t)) a place = role_of (slice_get (item_kinds (declared ss) (Some (item.Terminal t))) a) place

-- an occurrence, with the number and the role of the attribute that it names
abbrev pub reference_of : List Symbol → List Item → Bool → Occ → Reference
reference_of ss items is_target o = let a = (target_of ss items o).attr in record {
  at = o.at;
  place = o.place;
  attr = a;
  role = item_role ss (slice_get items o.place) a o.place;
  is_target = is_target;
}

-- the references of a rule: its target, and then its arguments
abbrev pub references_of : List Symbol → List Item → RawRule → List Reference
references_of ss items r = reference_of ss items true r.target ∷ map (reference_of ss items false) r.expr.occurrences

-- a resolved production
abbrev pub resolved_production : List Symbol → RawProduction → ResolvedProduction
resolved_production ss q = record { places = places_of ss q; references = flat_map (references_of ss (placed ss q)) q.rules }

-- the resolved productions of a raw grammar
abbrev pub resolved_productions : RawGrammar → List ResolvedProduction
resolved_productions raw = map (resolved_production (map symbol_of raw.symbols)) raw.productions
