-- All conflicts of a grammar, one for each pair of productions (this project's).
use Rattle.std.specs.Prelude.{ℕ, ◌+◌, ◌≡◌, ◌<◌, ◌≤◌, ◌⊎◌, ◌↔◌, Bool, true, false, ◌&&◌, List, [], Option, Some, None, length}
use Rattle.std.specs.Prelude.{AllPairs, Contains, slice_index_or}
use Rattle.ag_grammar.specs.grammars.AttributeGrammar.{Grammar}
use Rattle.closure.specs.Following.{is_marked}
use Rattle.llparse.specs.Ahead.{IsConflict}
use Rattle.llparse.specs.table.Edges.{IsKnownAhead}
use Rattle.llparse.specs.table.Nodes.{index_of}
use Rattle.llparse.specs.table.Predicted.{ArePredicted}
use Rattle.llparse.specs.declared.ahead.Ahead.{Ahead}
use Rattle.llparse.specs.declared.table.fault.TableFault.{TableFault}
use Rattle.llparse.specs.declared.table.fault.TableFault.TheVariants as table_fault

-- Two productions of this symbol are in conflict at x, and at no look-ahead before x.
pub record IsLeastFor (g : Grammar) (symbol first second : ℕ) (x : Ahead) : Type 0 where
  pub conflict : IsConflict g first second x
  pub of_symbol : conflict.one.left ≡ symbol
  pub least : (y : Ahead) → IsConflict g first second y → index_of (length g.literals) x ≤ index_of (length g.literals) y

-- a fault is a conflict of two productions, with the least look-ahead of these two
abbrev pub IsLeastOfPair : Grammar → TableFault → Type 0
IsLeastOfPair g (table_fault.Conflict symbol first second x) = IsLeastFor g symbol first second x
IsLeastOfPair g table_fault.NoMemory = ⊥

-- a fault is a conflict whose pair of productions comes before that of c and d: its first is less than c, or it is c and its
-- second is less than d
abbrev pub IsBeforePair : TableFault → ℕ → ℕ → Type 0
IsBeforePair (table_fault.Conflict symbol first second x) c d = (first < c) ⊎ ((first ≡ c) × (second < d))
IsBeforePair table_fault.NoMemory c d = ⊥

-- the pair of a conflict comes before that of another one
abbrev pub IsBefore : TableFault → TableFault → Type 0
IsBefore f (table_fault.Conflict symbol first second x) = IsBeforePair f first second
IsBefore f table_fault.NoMemory = ⊥

-- These are all conflicts of a grammar: for each two productions that are in conflict, the one with their least look-ahead. They
-- are in order of their first productions, then of their second ones.
pub record AreConflicts (g : Grammar) (faults : List TableFault) : Type 0 where
  pub exact : (f : TableFault) → Contains faults f ↔ IsLeastOfPair g f
  pub in_order : AllPairs IsBefore faults

-- these are the conflicts of the pairs before that of c and d
pub record AreConflictsBefore (g : Grammar) (c d : ℕ) (faults : List TableFault) : Type 0 where
  pub exact : (f : TableFault) → Contains faults f ↔ (IsLeastOfPair g f × IsBeforePair f c d)
  pub in_order : AllPairs IsBefore faults

-- for each look-ahead before an index, the marks of the productions that it predicts
abbrev pub AreMarksBelow : Grammar → ℕ → List (List Bool) → Type 0
AreMarksBelow g n lists = (y : Ahead) → IsKnownAhead g y → index_of (length g.literals) y < n
    → ArePredicted g y (slice_index_or lists (index_of (length g.literals) y) [])

-- for each look-ahead, by its index, the marks of the productions that it predicts
pub record AreMarks (g : Grammar) (lists : List (List Bool)) : Type 0 where
  pub count : length lists ≡ length g.literals + 4
  pub marks : AreMarksBelow g (length g.literals + 4) lists

-- whether the marks have those of two productions
abbrev pub has_both : List Bool → ℕ → ℕ → Bool
has_both marks first second = is_marked marks first && is_marked marks second

-- the least index of marks that have those of two productions, if there is one
abbrev pub IsLeastIndex : List (List Bool) → ℕ → ℕ → Option ℕ → Type 0
IsLeastIndex lists first second None = (k : ℕ) → k < length lists → has_both (slice_index_or lists k []) first second ≡ false
IsLeastIndex lists first second (Some i) =
    (i < length lists) × (has_both (slice_index_or lists i []) first second ≡ true)
    × ((k : ℕ) → k < i → has_both (slice_index_or lists k []) first second ≡ false)
