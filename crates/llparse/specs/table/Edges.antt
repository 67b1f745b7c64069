-- Edges between nodes, and the nodes that they reach.
use Rattle.std.specs.Prelude.{ℕ, ◌+◌, ◌≡◌, ◌<◌, ◌⊎◌, ◌↔◌, Bool, true, List, [], ◌∷◌, length, Contains, if◌then◌else◌}
use Rattle.ag_grammar.specs.declared.grammar.Item.TheVariants as item
use Rattle.ag_grammar.specs.declared.grammar.Item.{Item}
use Rattle.ag_grammar.specs.declared.grammar.Production.{Production}
use Rattle.ag_grammar.specs.declared.grammar.Terminal.TheVariants.{Literal, Class}
use Rattle.ag_grammar.specs.grammars.AttributeGrammar.{Grammar}
use Rattle.ag_grammar.specs.grammars.Accepted.{IsNamedItem, class_count}
use Rattle.llparse.specs.Ahead.{InFirst}
use Rattle.llparse.specs.table.Nodes.{node_of}
use Rattle.llparse.specs.table.Nullable.{is_nullable_item}
use Rattle.closure.specs.Clauses.{Clauses}
use Rattle.closure.specs.Edges.{clauses_of_edges}
use Rattle.closure.specs.Following.{is_marked}
use Rattle.closure.specs.declared.edges.Edge.{Edge}
use Rattle.llparse.specs.declared.ahead.Ahead.{Ahead}
use Rattle.llparse.specs.declared.ahead.Ahead.TheVariants as ahead

-- B adds P to A: B has the elements of A and of P, and no others
pub record Adds {X : Type 0} (P A B : X → Type 0) : Type 0 where
  pub kept : (x : X) → A x → B x
  pub all : (x : X) → P x → B x
  pub only : (x : X) → B x → A x ⊎ P x

-- y is in the relation R with some element of the list
abbrev pub OfSome : {X Y : Type 0} → (X → Y → Type 0) → List X → Y → Type 0
OfSome {X} R xs y = (x : X) × Contains xs x × R x y

-- an edge goes from one node to another
pub record IsEdge (from to : ℕ) (e : Edge) : Type 0 where
  pub tail : e.from ≡ from
  pub head : e.to ≡ to

-- an item's node among those of a grammar
abbrev pub node_in : Grammar → Item → ℕ
node_in g x = node_of (length g.symbols) (length g.literals) x

-- the starting items for a set of nullable symbols: the first that is not nullable and all before it, or all if all are nullable
abbrev pub starting_items : (ℕ → Bool) → List Item → List Item
starting_items n [] = []
starting_items n (x ∷ xs) = x ∷ (if is_nullable_item n x then starting_items n xs else [])

-- an edge goes from a starting item of a right side to the left side
abbrev pub IsFirstEdge : Grammar → (ℕ → Bool) → Production → Edge → Type 0
IsFirstEdge g n q e = OfSome (λ x e. IsEdge (node_in g x) q.left e) (starting_items n q.items) e

-- the number of nodes of a grammar: its symbols, its literals, the three classes and the end
abbrev pub node_count : Grammar → ℕ
node_count g = length g.symbols + (length g.literals + 4)

-- exactly the edges with the property P are added to a list
abbrev pub AddsEdges : (Edge → Type 0) → List Edge → List Edge → Type 0
AddsEdges P before after = Adds P (Contains before) (Contains after)

-- the clauses are those of a list of edges that has the property P, over the nodes of a grammar
abbrev pub IsOver : Grammar → (List Edge → Type 0) → Clauses → Type 0
IsOver g P clauses = (edges : List Edge) × (clauses ≡ clauses_of_edges edges (node_count g)) × P edges

-- a list has exactly the edges for FIRST
abbrev pub AreFirstEdges : Grammar → List Bool → List Edge → Type 0
AreFirstEdges g nullable edges = (e : Edge) → Contains edges e ↔ OfSome (IsFirstEdge g (is_marked nullable)) g.productions e

-- a look-ahead is a literal of a grammar, a class, or the end
abbrev pub IsKnownAhead : Grammar → Ahead → Type 0
IsKnownAhead g (ahead.Terminal (Literal l)) = l < length g.literals
IsKnownAhead g (ahead.Terminal (Class c)) = c < class_count
IsKnownAhead g ahead.End = Unit {0}

-- a look-ahead is in FIRST of an item: the item is that terminal, or a symbol with it in FIRST
abbrev pub InFirstOfItem : Grammar → Item → Ahead → Type 0
InFirstOfItem g (item.Symbol s) (ahead.Terminal a) = InFirst g s a
InFirstOfItem g (item.Symbol s) ahead.End = ⊥
InFirstOfItem g (item.Terminal b) x = ahead.Terminal b ≡ x

-- an item whose number the grammar has (`IsNamedItem`) has a mark exactly if the look-ahead is in FIRST of the item
abbrev pub AreFirstMarks : Grammar → Ahead → List Bool → Type 0
AreFirstMarks g x marks = (y : Item) → IsNamedItem g y → is_marked marks (node_in g y) ≡ true ↔ InFirstOfItem g y x
