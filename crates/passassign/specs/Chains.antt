-- Chains of strikes: why a pass can't compute an attribute, down to a strike that waits for no other attribute.
use Rattle.std.specs.Prelude.{ℕ, ◌≡◌, List, [], ◌∷◌, Option, Some, None, slice_get, slice_index_or, take}
use Rattle.ag_grammar.specs.declared.grammar.Item.TheVariants as item
use Rattle.ag_grammar.specs.declared.grammar.Production.{Production}
use Rattle.ag_grammar.specs.declared.grammar.Rule.{Rule}
use Rattle.ag_grammar.specs.declared.grammar.Target.{Target}
use Rattle.ag_grammar.specs.grammars.AttributeGrammar.{Grammar, IsProduction, item_at}
use Rattle.ag_grammar.specs.declared.direction.Direction.{Direction}
use Rattle.passassign.specs.declared.stuck.Strike.{Strike}
use Rattle.passassign.specs.Certificate.{Attributes, IsSameOrLater, IsGood, IsStruckBy}

-- the list with only the first strike of a list; empty if that list is empty
abbrev pub first_only : List Strike → List Strike
first_only [] = []
first_only (x ∷ xs) = x ∷ []

-- A chain: each strike is of a candidate, and is good if only the attribute of the next one is struck. So the last one waits
-- for no attribute (this project's).
abbrev pub IsChain : Grammar → Direction → Attributes → List Strike → Type 0
IsChain g d candidate [] = Unit {0}
IsChain g d candidate (x ∷ xs) = candidate x.symbol x.attr × IsGood g d candidate (first_only xs) x × IsChain g d candidate xs

-- a chain that begins with a strike of this attribute
pub record IsChainOf (g : Grammar) (d : Direction) (candidate : Attributes) (s a : ℕ) (xs : List Strike) : Type 0 where
  pub first : Strike
  pub others : List Strike
  pub is : xs ≡ first ∷ others
  pub symbol : first.symbol ≡ s
  pub attr : first.attr ≡ a
  pub chain : IsChain g d candidate xs

-- The parts that a strike names: a production, a rule of it, and an argument of that rule.
pub record Names (g : Grammar) (x : Strike) (q : Production) (u : Rule) (o : Target) : Type 0 where
  pub is_production : IsProduction g x.production q
  pub is_rule : slice_get q.rules x.rule ≡ Some u
  pub is_argument : slice_get u.args x.arg ≡ Some o

-- A strike waits for an attribute: that of its argument, which is neither at the target's child nor at one that is visited
-- later.
pub record WaitsFor (g : Grammar) (d : Direction) (x : Strike) (s a : ℕ) : Type 0 where
  pub production : Production
  pub rule : Rule
  pub argument : Target
  pub named : Names g x production rule argument
  pub not_same_or_later : IsSameOrLater d rule.target.place argument.place → ⊥
  pub symbol : item_at production argument.place ≡ Some (item.Symbol s)
  pub attr : argument.attr ≡ a

-- A strike waits for no attribute. There are three cases: its argument is at the target's child or at one that is visited later;
-- its argument is not an attribute of a symbol; the argument that the strike names does not exist.
abbrev pub WaitsForNone : Grammar → Direction → Strike → Type 0
WaitsForNone g d x = (q : Production) (u : Rule) (o : Target) (s : ℕ) → Names g x q u o → item_at q o.place ≡ Some (item.Symbol s)
    → IsSameOrLater d u.target.place o.place

-- the attribute that a strike waits for; `None` means that the strike waits for no attribute
abbrev pub IsWait : Grammar → Direction → Strike → Option (ℕ × ℕ) → Type 0
IsWait g d x None = WaitsForNone g d x
IsWait g d x (Some w) = WaitsFor g d x w.0 w.1

-- the attribute that a strike by this argument of a rule waits for; `None` means that the strike waits for no attribute
abbrev pub IsAwaited : Direction → Production → Rule → Target → Option (ℕ × ℕ) → Type 0
IsAwaited d q u o None = (s : ℕ) → item_at q o.place ≡ Some (item.Symbol s) → IsSameOrLater d u.target.place o.place
IsAwaited d q u o (Some w) =
    (IsSameOrLater d u.target.place o.place → ⊥) × (item_at q o.place ≡ Some (item.Symbol w.0)) × (o.attr ≡ w.1)

-- the strike at an index, one whose fields are all 0 if there is none
abbrev pub strike_at : List Strike → ℕ → Strike
strike_at xs i = slice_index_or xs i (record { symbol = 0; attr = 0; production = 0; rule = 0; arg = 0 })

-- a list's first strike is of this attribute
pub record StartsWith (s a : ℕ) (xs : List Strike) : Type 0 where
  pub first : Strike
  pub others : List Strike
  pub is : xs ≡ first ∷ others
  pub symbol : first.symbol ≡ s
  pub attr : first.attr ≡ a

-- a strike waits for the attribute of the first strike of a list, and for none if the list is empty
abbrev pub IsLink : Grammar → Direction → Strike → List Strike → Type 0
IsLink g d x [] = WaitsForNone g d x
IsLink g d x (y ∷ ys) = WaitsFor g d x y.symbol y.attr

-- Each strike waits for the next one's attribute, and the last one waits for none.
abbrev pub AreLinked : Grammar → Direction → List Strike → Type 0
AreLinked g d [] = Unit {0}
AreLinked g d (x ∷ xs) = IsLink g d x xs × AreLinked g d xs

-- in a list, the attribute that a strike waits for is struck before it
abbrev pub AreAwaitedBefore : Grammar → Direction → List Strike → Type 0
AreAwaitedBefore g d xs = (i : ℕ) (x : Strike) → slice_get xs i ≡ Some x → (s a : ℕ) → WaitsFor g d x s a
    → IsStruckBy (take i xs) s a
