-- The nullable symbols and the edges of a grammar, and the productions that one look-ahead chooses.
use Rattle.std.specs.Prelude.{ℕ, ◌≡◌, ◌+◌, ◌<◌, ◌≤◌, ◌⊎◌, ◌↔◌, Bool, true, List, Option, Some, None, slice_get, slice_index_or}
use Rattle.ag_grammar.specs.declared.grammar.Production.{Production}
use Rattle.ag_grammar.specs.grammars.AttributeGrammar.{Grammar, IsProduction}
use Rattle.llparse.specs.Ahead.{Predicts}
use Rattle.llparse.specs.table.CanStart.{AreFollowEdges}
use Rattle.llparse.specs.table.Edges.{AreFirstEdges, IsOver}
use Rattle.llparse.specs.table.Nullable.{AreNullableMarks}
use Rattle.closure.specs.Following.{is_marked}
use Rattle.llparse.specs.declared.ahead.Ahead.{Ahead}
use Rattle.llparse.specs.declared.table.choosing.Pair.{Pair}
use Rattle.llparse.specs.declared.table.predict.Sets.{Sets}

-- The marks are those of the nullable symbols. The clauses `first` and `follow` are those of the edges for FIRST and for FOLLOW,
-- not the FIRST and FOLLOW sets.
pub record AreSets (g : Grammar) (sets : Sets) : Type 0 where
  pub nullable_exact : AreNullableMarks g sets.nullable.items
  pub first_exact : IsOver g (AreFirstEdges g sets.nullable.items) sets.first
  pub follow_exact : IsOver g (AreFollowEdges g sets.nullable.items) sets.follow

-- the marks are those of the productions that a look-ahead predicts
abbrev pub ArePredicted : Grammar → Ahead → List Bool → Type 0
ArePredicted g x marks = (p : ℕ) (q : Production) → IsProduction g p q → is_marked marks p ≡ true ↔ Predicts g q x

-- the production k is marked and of symbol s
abbrev pub IsMarkedOf : List Production → List Bool → ℕ → ℕ → Type 0
IsMarkedOf qs marks s k = (q : Production) × (slice_get qs k ≡ Some q) × (q.left ≡ s) × (is_marked marks k ≡ true)

-- the choice for a symbol: None if no production is chosen, or the symbol is not in the list
abbrev pub choice_at : List (Option ℕ) → ℕ → Option ℕ
choice_at choices s = slice_index_or choices s None

-- For each symbol the first of its marked productions is chosen, among the productions from number `from` on.
pub record AreEarliestFrom (qs : List Production) (marks : List Bool) (from : ℕ) (choices : List (Option ℕ)) : Type 0 where
  pub chosen : (s k : ℕ) → choice_at choices s ≡ Some k
      → (from ≤ k) × IsMarkedOf qs marks s k × ((j : ℕ) → from ≤ j → IsMarkedOf qs marks s j → k ≤ j)
  pub none : (s k : ℕ) → choice_at choices s ≡ None → from ≤ k → IsMarkedOf qs marks s k → ⊥

-- two marked productions of one symbol, the lesser one first
abbrev pub AreConflicting : List Production → List Bool → ℕ → ℕ → Type 0
AreConflicting qs marks a b = (a < b) × ((s : ℕ) × IsMarkedOf qs marks s a × IsMarkedOf qs marks s b)

-- a pair comes at or before another: its first is less, or the firsts are the same and its second is at most the other's
abbrev pub IsNoLater : Pair → ℕ → ℕ → Type 0
IsNoLater p a b = (p.first < a) ⊎ ((p.first ≡ a) × (p.second ≤ b))

-- The least pair of conflicting productions (`AreConflicting`), among the pairs whose first has at least the number `from`, if
-- there is one.
abbrev pub IsLeastFrom : List Production → List Bool → ℕ → Option Pair → Type 0
IsLeastFrom qs marks from None = (a b : ℕ) → from ≤ a → AreConflicting qs marks a b → ⊥
IsLeastFrom qs marks from (Some p) =
    (from ≤ p.first) × AreConflicting qs marks p.first p.second
    × ((a b : ℕ) → from ≤ a → AreConflicting qs marks a b → IsNoLater p a b)

-- Let the production with the number `production` have this symbol and this mark, in any lists of productions and of marks. If
-- `before` are the choices among the productions after this one, `after` are those among this one and the productions after it.
abbrev pub PutsEarliest : ℕ → ℕ → Bool → List (Option ℕ) → List (Option ℕ) → Type 0
PutsEarliest symbol production mark before after =
    (qs : List Production) (marks : List Bool) (q : Production) → slice_get qs production ≡ Some q → q.left ≡ symbol
    → is_marked marks production ≡ mark
    → AreEarliestFrom qs marks (production + 1) before → AreEarliestFrom qs marks production after

-- The same for the least pair of conflicting productions: it is `pair` before this production is handled, and `after` afterwards.
-- `before` are again the choices among the productions after this one.
abbrev pub PutsLeast : ℕ → ℕ → Bool → List (Option ℕ) → Option Pair → Option Pair → Type 0
PutsLeast symbol production mark before pair after =
    (qs : List Production) (marks : List Bool) (q : Production) → slice_get qs production ≡ Some q → q.left ≡ symbol
    → is_marked marks production ≡ mark
    → AreEarliestFrom qs marks (production + 1) before → IsLeastFrom qs marks (production + 1) pair
    → IsLeastFrom qs marks production after
