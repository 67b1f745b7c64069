-- The layout of a production in a pass, a `ProductionRow`. Letters: c is a setting, q a production, p its number, u a rule, r its
-- number, o an argument, n its slot, and s are the slots of a rule. All definitions are this project's.
use Rattle.std.specs.Prelude.{ℕ, ◌≡◌, List, Some, slice_get}
use Rattle.ag_grammar.specs.declared.grammar.Production.{Production}
use Rattle.ag_grammar.specs.declared.grammar.Rule.{Rule}
use Rattle.ag_grammar.specs.Lists.{AreRelated}
use Rattle.ag_grammar.specs.grammars.AttributeGrammar.{IsProduction}
use Rattle.passcode.specs.Settings.{Setting, list_at}
use Rattle.pass_rows.specs.declared.layouts.building.ProductionRow.{ProductionRow}
use Rattle.pass_rows.specs.declared.layouts.building.RuleSlots.{RuleSlots}
use Rattle.pass_rows.specs.layouts.BuiltLayouts.{place_rows}
use Rattle.pass_rows.specs.Places.{row_passes}
use Rattle.pass_rows.specs.layouts.Slots.{argument_slot, stored_width, target_slot}

-- `slots` has the slots of rule u: that of its target, and those of its arguments.
pub record AreSlotsOf (c : Setting) (q : Production) (u : Rule) (slots : RuleSlots) : Type 0 where
  pub target : slots.target ≡ target_slot c q u.target.place u.target.attr
  pub args : AreRelated (λ o n. n ≡ argument_slot c q o.place o.attr) u.args slots.args

-- `row` is the layout of production q, which has number p: its instructions, the number of values in the row of a node, the
-- passes of these and of later values, the item at each place with the range of its copies, and the slots of each rule.
pub record IsRowOf (c : Setting) (p : ℕ) (q : Production) (row : ProductionRow) : Type 0 where
  pub list : row.list ≡ list_at c p
  pub width : row.width ≡ stored_width c q
  pub passes : row.passes ≡ row_passes c q
  pub places : row.places ≡ place_rows c q
  pub slots : (r : ℕ) (u : Rule) → slice_get q.rules r ≡ Some u
      → (s : RuleSlots) × (slice_get row.rules r ≡ Some s) × AreSlotsOf c q u s

-- `row` is the layout of the production with number p, if there is such a production.
abbrev pub IsRowAt : Setting → ℕ → ProductionRow → Type 0
IsRowAt c p row = (q : Production) → IsProduction c.grammar p q → IsRowOf c p q row

-- The list `rows` has the layout of each production, at the index of the production's number.
abbrev pub IsLayout : Setting → List ProductionRow → Type 0
IsLayout c rows = (p : ℕ) (q : Production) → IsProduction c.grammar p q
    → (row : ProductionRow) × (slice_get rows p ≡ Some row) × IsRowOf c p q row
