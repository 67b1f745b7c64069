-- The computed layout of each production. Letters: c is a setting, q a production, p its number, x an item, u a rule, o an
-- attribute at a place, and j a place. Here `row` and `rows` are the `PlaceRow`s of places. All definitions are this project's.
use Rattle.std.specs.Prelude.{ℕ, zero, suc, ◌+◌, ◌<◌, List, [], ◌∷◌, Option, Some, None, map}
use Rattle.ag_grammar.specs.declared.grammar.Item.{Item}
use Rattle.ag_grammar.specs.declared.grammar.Item.TheVariants as item
use Rattle.ag_grammar.specs.declared.grammar.Production.{Production}
use Rattle.ag_grammar.specs.declared.grammar.Rule.{Rule}
use Rattle.ag_grammar.specs.declared.grammar.Target.{Target}
use Rattle.ag_grammar.specs.Lists.{Each}
use Rattle.ag_grammar.specs.grammars.AttributeGrammar.{stored_items}
use Rattle.ag_grammar.specs.grammars.Passes.{Passes, item_passes}
use Rattle.passcode.specs.Settings.{Setting, list_at}
use Rattle.pass_rows.specs.Places.{row_passes}
use Rattle.pass_rows.specs.declared.layouts.building.PlaceRow.{PlaceRow}
use Rattle.pass_rows.specs.declared.layouts.building.ProductionRow.{ProductionRow}
use Rattle.pass_rows.specs.declared.layouts.building.RuleSlots.{RuleSlots}
use Rattle.pass_rows.specs.layouts.Slots.{argument_slot, copied_width, known_width, own_width, rank, row_start, stored_width}
use Rattle.pass_rows.specs.layouts.Slots.{target_slot}

-- The slots of a rule's target and of its arguments.
abbrev pub rule_slots : Setting → Production → Rule → RuleSlots
rule_slots c q u =
    record {
      target = target_slot c q u.target.place u.target.attr;
      args = map (λ (o : Target). argument_slot c q o.place o.attr) u.args;
    }

-- The slots of each rule of a production.
abbrev pub production_slots : Setting → Production → List RuleSlots
production_slots c q = map (rule_slots c q) q.rules

-- The `PlaceRow`s of some items, whose copies begin at the index `start` of the node's row.
abbrev pub rows_after : Setting → ℕ → List Item → List PlaceRow
rows_after c start [] = []
rows_after c start (x ∷ xs) =
    record { item = x; start = start; width = copied_width c x; known = known_width c x } ∷ rows_after c
    (start + copied_width c x) xs

-- The `PlaceRow`s of a production's places. The left side has no copies.
abbrev pub place_rows : Setting → Production → List PlaceRow
place_rows c q =
    record { item = item.Symbol q.left; start = 0; width = 0; known = 0 } ∷ rows_after c (own_width c q) (stored_items q.items)

-- The layout of production q, which has number p.
abbrev pub production_row : Setting → ℕ → Production → ProductionRow
production_row c p q =
    record {
      list = list_at c p;
      width = stored_width c q;
      passes = row_passes c q;
      places = place_rows c q;
      rules = production_slots c q;
    }

-- The layouts of some productions, the first of which has number p.
abbrev pub rows_from : Setting → ℕ → List Production → List ProductionRow
rows_from c p [] = []
rows_from c p (q ∷ qs) = production_row c p q ∷ rows_from c (suc p) qs

-- The layout of each production of a grammar.
abbrev pub layout_of : Setting → List ProductionRow
layout_of c = rows_from c 0 c.grammar.productions

-- The target and the arguments of a rule are at places below `count`.
pub record IsWithin (count : ℕ) (u : Rule) : Type 0 where
  pub target : u.target.place < count
  pub args : Each (λ (o : Target). o.place < count) u.args

-- The targets and the arguments of all these rules are at places below `count`.
abbrev pub AreWithin : ℕ → List Rule → Type 0
AreWithin count rules = Each (IsWithin count) rules

-- The item at a place, according to the `PlaceRow`s.
abbrev pub item_in : List PlaceRow → ℕ → Option Item
item_in [] j = None
item_in (row ∷ rows) zero = Some row.item
item_in (row ∷ rows) (suc j) = item_in rows j

-- The index at which the copies of a place begin, according to the `PlaceRow`s.
abbrev pub start_in : List PlaceRow → ℕ → ℕ
start_in [] j = 0
start_in (row ∷ rows) zero = row.start
start_in (row ∷ rows) (suc j) = start_in rows j

-- The slots of an argument, of a target and of a rule in pass k, computed from the `PlaceRow`s (not from the production). m are
-- the passes of the attributes of each symbol, and `width` is the number of values in the node's row.
abbrev pub argument_slot_by : Passes → ℕ → List PlaceRow → Target → ℕ
argument_slot_by m k rows o = start_in rows o.place + rank k (item_passes m (item_in rows o.place)) o.attr

abbrev pub target_slot_by : Passes → ℕ → (width : ℕ) → List PlaceRow → Target → ℕ
target_slot_by m k width rows o = row_start width o.place + rank k (item_passes m (item_in rows o.place)) o.attr

abbrev pub rule_slots_by : Passes → ℕ → (width : ℕ) → List PlaceRow → Rule → RuleSlots
rule_slots_by m k width rows u =
    record { target = target_slot_by m k width rows u.target; args = map (argument_slot_by m k rows) u.args }
