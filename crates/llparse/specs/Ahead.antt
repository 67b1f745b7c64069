-- Look-ahead (the textbook): nullable symbols, FIRST, FOLLOW, the predictions of productions, and conflicts.
-- Each `data` relation is the least one that is closed under its cases.
use Rattle.std.specs.Prelude.{◌≡◌, ◌<◌, ℕ, List, [], ◌∷◌, ◌++◌, ◌⊎◌}
use Rattle.ag_grammar.specs.declared.grammar.Item.TheVariants as item
use Rattle.ag_grammar.specs.declared.grammar.Item.{Item}
use Rattle.ag_grammar.specs.declared.grammar.Production.{Production}
use Rattle.ag_grammar.specs.declared.grammar.Terminal.{Terminal}
use Rattle.ag_grammar.specs.grammars.AttributeGrammar.{Grammar, IsProduction}
use Rattle.ag_grammar.specs.grammars.Yield.{Lexeme}
use Rattle.llparse.specs.declared.ahead.Ahead.{Ahead}
use Rattle.llparse.specs.declared.ahead.Ahead.TheVariants as ahead

-- A symbol is nullable if all items of one of its productions are nullable. A terminal is not nullable. `AreNullable`: all items
-- of a list are nullable.
mutual
  pub data IsNullable (g : Grammar) : ℕ → Type 0 where
    by_production : (p : ℕ) (q : Production) {s : ℕ} → IsProduction g p q → q.left ≡ s → AreNullable g q.items → IsNullable g s

  pub data AreNullable (g : Grammar) : List Item → Type 0 where
    nothing : AreNullable g []
    a_symbol : {s : ℕ} {xs : List Item} → IsNullable g s → AreNullable g xs → AreNullable g (item.Symbol s ∷ xs)

-- A terminal is in FIRST of a symbol if it is in FIRST of the right side of one of the symbol's productions. It is in
-- FIRST of a right side if it is the first item, if it is in FIRST of the first item, or if the first item is
-- nullable and the terminal is in FIRST of the rest.
mutual
  pub data InFirst (g : Grammar) : ℕ → Terminal → Type 0 where
    of_production : (p : ℕ) (q : Production) {s : ℕ} {a : Terminal} → IsProduction g p q → q.left ≡ s → InFirstOf g q.items a
        → InFirst g s a

  pub data InFirstOf (g : Grammar) : List Item → Terminal → Type 0 where
    here : {a : Terminal} {xs : List Item} → InFirstOf g (item.Terminal a ∷ xs) a
    inside : {s : ℕ} {a : Terminal} {xs : List Item} → InFirst g s a → InFirstOf g (item.Symbol s ∷ xs) a
    later : {s : ℕ} {a : Terminal} {xs : List Item} → IsNullable g s → InFirstOf g xs a → InFirstOf g (item.Symbol s ∷ xs) a

-- FOLLOW of a symbol: the end follows the start symbol; a terminal in FIRST of the rest of a right side after
-- the symbol follows it; and if that rest is nullable, each look-ahead that follows the left side follows the symbol too.
pub data InFollow (g : Grammar) : ℕ → Ahead → Type 0 where
  at_end : InFollow g g.start ahead.End
  next : (p : ℕ) (q : Production) {s : ℕ} {a : Terminal} (xs ys : List Item) → IsProduction g p q
      → q.items ≡ xs ++ item.Symbol s ∷ ys → InFirstOf g ys a → InFollow g s (ahead.Terminal a)
  last : (p : ℕ) (q : Production) {s : ℕ} {x : Ahead} (xs ys : List Item) → IsProduction g p q
      → q.items ≡ xs ++ item.Symbol s ∷ ys → AreNullable g ys → InFollow g q.left x → InFollow g s x

-- a look-ahead is in FIRST of items; the end of the sentence is in FIRST of no items
abbrev pub IsInFirstOf : Grammar → List Item → Ahead → Type 0
IsInFirstOf g xs (ahead.Terminal a) = InFirstOf g xs a
IsInFirstOf g xs ahead.End = ⊥

-- A production is predicted by a look-ahead: the look-ahead is in FIRST of its right side, or its right side is
-- nullable and the look-ahead is in FOLLOW of its left side.
abbrev pub Predicts : Grammar → Production → Ahead → Type 0
Predicts g q x = IsInFirstOf g q.items x ⊎ (AreNullable g q.items × InFollow g q.left x)

-- A conflict: two productions of one symbol, by their numbers and the lesser one first, are predicted by the same look-ahead.
pub record IsConflict (g : Grammar) (first second : ℕ) (x : Ahead) : Type 0 where
  pub one : Production
  pub other : Production
  pub first_is : IsProduction g first one
  pub second_is : IsProduction g second other
  pub earlier : first < second
  pub of_one_symbol : one.left ≡ other.left
  pub one_predicts : Predicts g one x
  pub other_predicts : Predicts g other x

-- no two productions are in conflict at any look-ahead
abbrev pub HasNoConflict : Grammar → Type 0
HasNoConflict g = (first second : ℕ) (x : Ahead) → IsConflict g first second x → ⊥

-- the look-ahead of a list of words (terminals with their texts): the terminal of the first one, or the end if there is none
abbrev pub ahead_of : List Lexeme → Ahead
ahead_of [] = ahead.End
ahead_of (w ∷ ws) = ahead.Terminal w.0
