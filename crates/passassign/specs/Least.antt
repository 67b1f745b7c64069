-- Assignments of passes to some of the attributes, the least assignment, and the attributes to which no
-- assignment can assign a pass (after Jazayeri and Walter 1975).
use Rattle.std.specs.Prelude.{ℕ, ◌≡◌, ◌≤◌, [], ◌∷◌, Option, Some, None, slice_get}
use Rattle.ag_grammar.specs.Lists.{Each}
use Rattle.ag_grammar.specs.declared.grammar.Item.TheVariants as item
use Rattle.ag_grammar.specs.declared.grammar.Item.{Item}
use Rattle.ag_grammar.specs.declared.grammar.Production.{Production}
use Rattle.ag_grammar.specs.declared.grammar.Target.{Target}
use Rattle.ag_grammar.specs.declared.grammar.Terminal.TheVariants.{Literal, Class}
use Rattle.ag_grammar.specs.grammars.AttributeGrammar.{Grammar, Kind, item_at, symbol_kinds}
use Rattle.ag_grammar.specs.grammars.Passes.{Passes, IsLegalFor, IsLegal}

-- A partial assignment: the pass of an attribute, by the numbers of its symbol and of itself, if it has one
-- (this project's).
abbrev pub Partial : Type 0
Partial = ℕ → ℕ → Option ℕ

-- the assignment of all attributes, as a partial one
abbrev pub partial_of : Passes → Partial
partial_of m s a = slice_get (m s) a

-- a symbol of this number has an attribute of this number
abbrev pub IsAttribute : Grammar → ℕ → ℕ → Type 0
IsAttribute g s a = (k : Kind) × (slice_get (symbol_kinds (slice_get g.symbols s)) a ≡ Some k)

-- a partial assignment assigns passes only to attributes that exist
abbrev pub AssignsOnlyAttributes : Grammar → Partial → Type 0
AssignsOnlyAttributes g n = (s a p : ℕ) → n s a ≡ Some p → IsAttribute g s a

-- The pass of an item's attribute, if it has one. A token's text has pass 0.
abbrev pub pass_at : Partial → Option Item → ℕ → Option ℕ
pass_at n None a = None
pass_at n (Some (item.Symbol s)) a = n s a
pass_at n (Some (item.Terminal (Class c))) a = slice_get (0 ∷ []) a
pass_at n (Some (item.Terminal (Literal l))) a = None

-- the attribute at a place has pass p in a partial assignment
abbrev pub HasPassIn : Partial → Production → Target → ℕ → Type 0
HasPassIn n q o p = pass_at n (item_at q o.place) o.attr ≡ Some p

-- A legal partial assignment. It assigns passes of at least 1, and only to attributes that exist. Each argument of a rule for
-- an attribute with a pass has a pass too, one that the rule may use (after Jazayeri and Walter 1975).
pub record IsLegalPartial (g : Grammar) (n : Partial) : Type 0 where
  pub known : AssignsOnlyAttributes g n
  pub positive : (s a p : ℕ) → n s a ≡ Some p → 1 ≤ p
  pub allowed : Each (IsLegalFor (HasPassIn n)) g.productions

-- A stuck attribute: no legal partial assignment assigns it a pass (this project's).
abbrev pub IsStuck : Grammar → ℕ → ℕ → Type 0
IsStuck g s a = (n : Partial) → IsLegalPartial g n → n s a ≡ None

-- The least assignment: it is legal, and no legal assignment gives any attribute an earlier pass (after
-- Jazayeri and Walter 1975).
pub record IsLeast (g : Grammar) (m : Passes) : Type 0 where
  pub legal : IsLegal g m
  pub least : (other : Passes) → IsLegal g other → (s a p q : ℕ) → partial_of m s a ≡ Some p → partial_of other s a ≡ Some q
      → p ≤ q

-- An alternating grammar: there is a legal assignment, with any number of passes (after Jazayeri and Walter
-- 1975).
abbrev pub IsAlternating : Grammar → Type 0
IsAlternating g = (m : Passes) × IsLegal g m
