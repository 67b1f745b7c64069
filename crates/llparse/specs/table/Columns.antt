-- The invariants of filling tables, one look-ahead at a time (this project's).
use Rattle.std.specs.Prelude.{ℕ, ◌≡◌, ◌<◌, ◌≤◌, ◌⊎◌, List, [], Option, Some, None, length, slice_index_or}
use Rattle.ag_grammar.specs.grammars.AttributeGrammar.{Grammar}
use Rattle.llparse.specs.Ahead.{IsConflict}
use Rattle.llparse.specs.table.Edges.{IsKnownAhead}
use Rattle.llparse.specs.table.Nodes.{index_of}
use Rattle.llparse.specs.table.Predicted.{choice_at, IsNoLater}
use Rattle.llparse.specs.table.Tables.{IsNotAfter, IsChoice}
use Rattle.llparse.specs.declared.ahead.Ahead.{Ahead}
use Rattle.llparse.specs.declared.table.choosing.Pair.{Pair}
use Rattle.llparse.specs.declared.table.filling.Conflict.{Conflict}

-- for each symbol the least number of a production of this symbol that the look-ahead predicts, or None if it predicts none
pub record IsColumn (g : Grammar) (x : Ahead) (choices : List (Option ℕ)) : Type 0 where
  pub chosen : (s k : ℕ) → choice_at choices s ≡ Some k → IsChoice g s x k × ((j : ℕ) → IsChoice g s x j → k ≤ j)
  pub none : (s k : ℕ) → choice_at choices s ≡ None → IsChoice g s x k → ⊥

-- the least conflict at one look-ahead, if there is one
abbrev pub IsLeastAt : Grammar → Ahead → Option Pair → Type 0
IsLeastAt g x None = (a b : ℕ) → IsConflict g a b x → ⊥
IsLeastAt g x (Some p) = IsConflict g p.first p.second x × ((a b : ℕ) → IsConflict g a b x → IsNoLater p a b)

-- the least conflict at the look-aheads before an index, if there is one
abbrev pub IsLeastBelow : Grammar → ℕ → Option Conflict → Type 0
IsLeastBelow g n None = (a b : ℕ) (y : Ahead) → IsKnownAhead g y → index_of (length g.literals) y < n → IsConflict g a b y → ⊥
IsLeastBelow g n (Some c) =
    IsConflict g c.first c.second c.ahead × (index_of (length g.literals) c.ahead < n)
    × ((a b : ℕ) (y : Ahead) → IsKnownAhead g y → index_of (length g.literals) y < n → IsConflict g a b y
    → IsNotAfter g c.first c.second c.ahead a b y)

-- the columns of the look-aheads before an index
abbrev pub AreColumns : Grammar → ℕ → List (List (Option ℕ)) → Type 0
AreColumns g n columns = (y : Ahead) → IsKnownAhead g y → index_of (length g.literals) y < n
    → IsColumn g y (slice_index_or columns (index_of (length g.literals) y) [])

-- the conflict of a pair at a look-ahead
abbrev pub at_ahead : Pair → Ahead → Conflict
at_ahead p x = record { first = p.first; second = p.second; ahead = x }

-- the lesser of a conflict and a pair at a later look-ahead, if there are both; otherwise the one that there is, or none
abbrev pub IsLesserConflict : Option Conflict → Option Pair → Ahead → Option Conflict → Type 0
IsLesserConflict None None x result = result ≡ None
IsLesserConflict None (Some p) x result = result ≡ Some (at_ahead p x)
IsLesserConflict (Some c) None x result = result ≡ Some c
IsLesserConflict (Some c) (Some p) x result =
    ((result ≡ Some c) × ((c.first < p.first) ⊎ ((c.first ≡ p.first) × (c.second ≤ p.second))))
    ⊎ ((result ≡ Some (at_ahead p x)) × ((p.first < c.first) ⊎ ((p.first ≡ c.first) × (p.second < c.second))))
