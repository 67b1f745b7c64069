-- Bounds of the numbers of values in rows. Letters: m are the passes of the attributes of each symbol, s is a symbol, and j a
-- place. All definitions are this project's.
use Rattle.std.specs.Prelude.{ℕ, ◌+◌, ◌*◌, ◌≤◌, List, length}
use Rattle.ag_grammar.specs.grammars.Accepted.{max_attributes, max_children}
use Rattle.ag_grammar.specs.grammars.Passes.{Passes}
use Rattle.pass_rows.specs.declared.layouts.building.PlaceRow.{PlaceRow}
use Rattle.pass_rows.specs.layouts.BuiltLayouts.{start_in}

-- No symbol has more attributes (by the list of their passes) than a grammar allows.
abbrev pub AreSmall : Passes → Type 0
AreSmall m = (s : ℕ) → length (m s) ≤ max_attributes

-- An upper bound of the number of values in the row of a node: its own, and the copies of its children's.
abbrev pub max_width : ℕ
max_width = max_attributes * (max_children + 1)

-- By these `PlaceRow`s, the copies of each place begin at an index of at most `max_width`.
abbrev pub AreLow : List PlaceRow → Type 0
AreLow rows = (j : ℕ) → start_in rows j ≤ max_width
