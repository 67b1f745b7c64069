-- Marks of attributes.
use Rattle.std.specs.Prelude.{ℕ, ◌≡◌, ◌<◌, true}
use Rattle.ag_grammar.specs.grammars.Accepted.{max_attributes, max_symbols}
use Rattle.passassign.specs.Tables.{slot_of, is_marked}
use Rattle.planchecker.specs.declared.marks.Marks.{Marks}

-- attribute a of symbol s is marked: both numbers are within the limits of a grammar, and the table has true in its slot
abbrev pub IsMarked : Marks → ℕ → ℕ → Type 0
IsMarked m s a = (s < max_symbols) × (a < max_attributes) × (is_marked m.slots (slot_of s a) ≡ true)
