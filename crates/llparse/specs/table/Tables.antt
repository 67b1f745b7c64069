-- Tables, and the least conflict.
use Rattle.std.specs.Prelude.{ℕ, ◌≡◌, ◌<◌, ◌≤◌, ◌⊎◌, ◌↔◌, Bool, true, List, [], Option, Some, None, length, slice_index_or}
use Rattle.std.specs.Prelude.{nat_lt, if◌then◌else◌}
use Rattle.ag_grammar.specs.declared.grammar.Production.{Production}
use Rattle.ag_grammar.specs.declared.grammar.Terminal.TheVariants.{Literal, Class}
use Rattle.ag_grammar.specs.grammars.AttributeGrammar.{Grammar, IsProduction}
use Rattle.ag_grammar.specs.grammars.Accepted.{class_count}
use Rattle.llparse.specs.Ahead.{IsConflict, Predicts}
use Rattle.llparse.specs.table.Nodes.{index_of}
use Rattle.llparse.specs.declared.ahead.Ahead.{Ahead}
use Rattle.llparse.specs.declared.ahead.Ahead.TheVariants as ahead

-- a look-ahead predicts production k of symbol s
abbrev pub IsChoice : Grammar → ℕ → Ahead → ℕ → Type 0
IsChoice g s x k = (q : Production) × IsProduction g k q × (q.left ≡ s) × Predicts g q x

-- Tables: the number of literals, and for each look-ahead, by its index, the production of each symbol.
pub record Choices : Type 0 where
  pub literals : ℕ
  pub columns : List (List (Option ℕ))

-- a look-ahead is a literal with a number below `literals`, a class, or the end
abbrev pub is_known : ℕ → Ahead → Bool
is_known literals (ahead.Terminal (Literal l)) = nat_lt l literals
is_known literals (ahead.Terminal (Class c)) = nat_lt c class_count
is_known literals ahead.End = true

-- the production of a symbol at a look-ahead, None if the tables have no entry for them
abbrev pub choice_of : Choices → ℕ → Ahead → Option ℕ
choice_of t s x =
    if is_known t.literals x then slice_index_or (slice_index_or t.columns (index_of t.literals x) []) s None else None

-- Tables fit a grammar: they have exactly its predictions.
abbrev pub FitsGrammar : Grammar → Choices → Type 0
FitsGrammar g t = (s : ℕ) (x : Ahead) (k : ℕ) → choice_of t s x ≡ Some k ↔ IsChoice g s x k

-- The conflict of a and b at x is not after that of c and d at y. Conflicts are in order of their first productions, then of
-- their second ones, then of their look-aheads: literals, then classes, then the end (this project's).
abbrev pub IsNotAfter : Grammar → ℕ → ℕ → Ahead → ℕ → ℕ → Ahead → Type 0
IsNotAfter g a b x c d y =
    (a < c) ⊎ ((a ≡ c) × ((b < d) ⊎ ((b ≡ d) × (index_of (length g.literals) x ≤ index_of (length g.literals) y))))

-- the least conflict, with its symbol
pub record IsLeastConflict (g : Grammar) (symbol first second : ℕ) (x : Ahead) : Type 0 where
  pub conflict : IsConflict g first second x
  pub of_symbol : conflict.one.left ≡ symbol
  pub least : (a b : ℕ) (y : Ahead) → IsConflict g a b y → IsNotAfter g first second x a b y
