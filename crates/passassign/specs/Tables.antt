-- The table in which the program records the passes of the attributes.
use Rattle.std.specs.Prelude.{ℕ, ◌≡◌, ◌+◌, ◌*◌, ◌<◌, ◌↔◌, List, Option, Some, None, Bool, true, false, cond, nat_lt, slice_get}
use Rattle.std.specs.Prelude.{slice_index_or, length, unwrap_or}
use Rattle.ag_grammar.specs.declared.grammar.Symbol.{Symbol}
use Rattle.ag_grammar.specs.grammars.Accepted.{max_attributes, max_symbols}
use Rattle.ag_grammar.specs.grammars.AttributeGrammar.{Kind, symbol_names, symbol_kinds}
use Rattle.passassign.specs.declared.table.State.{State}
use Rattle.passassign.specs.declared.table.State.TheVariants.{Absent, Open, Assigned}
use Rattle.passassign.specs.Least.{Partial}
use Rattle.passassign.specs.Rows.{passes_of}

-- the slot of an attribute: each symbol has as many slots as it may have attributes
abbrev pub slot_of : ℕ → ℕ → ℕ
slot_of s a = s * max_attributes + a

-- the greatest number of slots of a table
abbrev pub max_slots : ℕ
max_slots = max_symbols * max_attributes

-- the state of a slot, Absent if the table has no such slot
abbrev pub state_at : List State → ℕ → State
state_at states k = slice_index_or states k Absent

-- the state of attribute a of symbol s, Absent if a is not below `max_attributes`
abbrev pub state_of : List State → ℕ → ℕ → State
state_of states s a = cond (nat_lt a max_attributes) (state_at states (slot_of s a)) Absent

-- the pass of a state, if it has one
abbrev pub pass_of_state : State → Option ℕ
pass_of_state Absent = None
pass_of_state Open = None
pass_of_state (Assigned p) = Some p

-- the partial assignment of a table
abbrev pub table_passes : List State → Partial
table_passes states s a = pass_of_state (state_of states s a)

-- the slot has an attribute without a pass
abbrev pub is_open : State → Bool
is_open Absent = false
is_open Open = true
is_open (Assigned p) = false

-- the number of attributes of a symbol
abbrev pub attribute_count : Option Symbol → ℕ
attribute_count s = length (symbol_names s)

-- the initial state of an attribute, if its symbol has `count` attributes
abbrev pub first_state : ℕ → ℕ → State
first_state count a = cond (nat_lt a count) Open Absent

-- the initial table of some symbols
pub record IsFirstTable (symbols : List Symbol) (states : List State) : Type 0 where
  pub len : length states ≡ length symbols * max_attributes
  pub at : (s a : ℕ) → a < max_attributes → s < length symbols
      → state_at states (slot_of s a) ≡ first_state (attribute_count (slice_get symbols s)) a

-- a symbol of this number has an attribute of this number
abbrev pub IsDeclared : List Symbol → ℕ → ℕ → Type 0
IsDeclared symbols s a = (k : Kind) × (slice_get (symbol_kinds (slice_get symbols s)) a ≡ Some k)

-- A table of some symbols. The state of a slot is not Absent exactly if the slot has an attribute of one of these symbols.
pub record IsTable (symbols : List Symbol) (states : List State) : Type 0 where
  pub len : length states ≡ length symbols * max_attributes
  pub there : (s a : ℕ) → (state_of states s a ≡ Absent → ⊥) ↔ IsDeclared symbols s a

-- whether a slot is marked
abbrev pub is_marked : List Bool → ℕ → Bool
is_marked marks k = slice_index_or marks k false

-- the state of an attribute after pass p; `struck` says whether this pass strikes the attribute
abbrev pub after_pass : ℕ → State → Bool → State
after_pass p Absent struck = Absent
after_pass p Open true = Open
after_pass p Open false = Assigned p
after_pass p (Assigned q) struck = Assigned q

-- The rows of a table: there is one for each symbol, with the passes of its attributes, and 0 for an attribute
-- that has none.
pub record AreRowsOfTable (symbols : List Symbol) (states : List State) (rows : List (List ℕ)) : Type 0 where
  pub count : length rows ≡ length symbols
  pub len : (s : ℕ) → length (passes_of rows s) ≡ attribute_count (slice_get symbols s)
  pub passes : (s a : ℕ) → a < attribute_count (slice_get symbols s)
      → slice_get (passes_of rows s) a ≡ Some (unwrap_or (pass_of_state (state_at states (slot_of s a))) 0)
