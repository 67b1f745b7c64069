-- The open nodes of a parser, and the trees that complete them (this project's). A list of open nodes begins with the innermost
-- one.
use Rattle.std.specs.Prelude.{◌≡◌, ℕ, suc, ◌+◌, List, [], ◌∷◌, ◌++◌}
use Rattle.ag_grammar.specs.declared.grammar.Item.TheVariants as item
use Rattle.ag_grammar.specs.declared.grammar.Item.{Item}
use Rattle.ag_grammar.specs.declared.grammar.Production.{Production}
use Rattle.ag_grammar.specs.grammars.AttributeGrammar.{Grammar, stored_items, IsProduction}
use Rattle.ag_grammar.specs.grammars.Tree.{Tree, node, Forest, none, more, Fits, FitsAll, node_counts}
use Rattle.ag_grammar.specs.grammars.Yield.{Lexeme, yield_along, yield_of}

-- the trees of the first list, and then those of the second
abbrev pub joined : Forest → Forest → Forest
joined none us = us
joined (more t ts) us = more t (joined ts us)

-- A node whose right side is read up to `rest`: `done` has the trees of the items that are read (a literal has no tree). A child
-- that is still open is in neither: its item comes just before `rest`, and its tree is not in `done`.
pub record Open : Type 0 where
  pub production : ℕ
  pub done : Forest
  pub rest : List Item

-- a node open at `rest`
abbrev pub open_at : ℕ → Forest → List Item → Open
open_at p done rest = record { production = p; done = done; rest = rest }

-- the number of nodes that are open or done
abbrev pub opened : List Open → ℕ
opened [] = 0
opened (o ∷ os) = suc (node_counts o.done) + opened os

module _ (g : Grammar) where
  -- t is a whole tree in which c is the next child of the innermost open node, and ws are t's words after c. If no node is open,
  -- t is c.
  abbrev pub Continues : List Open → Tree → List Lexeme → Tree → Type 0
  Continues [] c ws t = (ws ≡ []) × (t ≡ c)
  Continues (o ∷ os) c ws t =
      (fs : Forest) × (vs : List Lexeme) × FitsAll g (stored_items o.rest) fs × (ws ≡ yield_along g o.rest fs ++ vs)
      × Continues os (node o.production (joined o.done (more c fs))) vs t

  -- t is a whole tree that completes the open nodes, of which o is the innermost, and ws are t's words that are not read yet
  abbrev pub Completes : Open → List Open → List Lexeme → Tree → Type 0
  Completes o os ws t =
      (fs : Forest) × (vs : List Lexeme) × FitsAll g (stored_items o.rest) fs × (ws ≡ yield_along g o.rest fs ++ vs)
      × Continues os (node o.production (joined o.done fs)) vs t

  -- t is a whole tree in which a tree c of symbol s comes next below the innermost open node, and ws are t's words from c on
  abbrev pub ContinuesWith : List Open → ℕ → List Lexeme → Tree → Type 0
  ContinuesWith os s ws t =
      (c : Tree) × (vs : List Lexeme) × Fits g (item.Symbol s) c × (ws ≡ yield_of g c ++ vs)
      × Continues os c vs t

  -- A node of symbol s may be opened below these open nodes, of which the innermost is first: the innermost has just passed an
  -- item s, and each other one an item of the symbol of the node inside it. If none is open, s is the start symbol.
  abbrev pub IsStack : List Open → ℕ → Type 0
  IsStack [] s = s ≡ g.start
  IsStack (o ∷ os) s =
      (q : Production) × (before : List Item) × IsProduction g o.production q × (q.items ≡ before ++ item.Symbol s ∷ o.rest)
      × IsStack os q.left

  -- the innermost open node o has read a prefix of its right side, and a node of its symbol may be opened below the others
  abbrev pub FitsStack : Open → List Open → Type 0
  FitsStack o os =
      (q : Production) × (before : List Item) × IsProduction g o.production q × (q.items ≡ before ++ o.rest) × IsStack os q.left

  -- each open node may be opened below those around it, and the next item of the innermost one is this item; if none is open,
  -- this item is the start symbol
  abbrev pub IsNext : List Open → Item → Type 0
  IsNext [] x = x ≡ item.Symbol g.start
  IsNext (o ∷ os) x = FitsStack (open_at o.production o.done (x ∷ o.rest)) os

-- A whole tree is cut before one of its nodes: the nodes above this one are open, each with its children that are done, and the
-- words are those of the tree from this node on. `child` is the subtree of this node, and `next` its item. `following` are the
-- words after it.
pub record IsCutAt (g : Grammar) (above : List Open) (words : List Lexeme) (t : Tree) : Type 0 where
  pub next : Item
  pub child : Tree
  pub following : List Lexeme
  pub occurs : IsNext g above next
  pub fits : Fits g next child
  pub splits : words ≡ yield_of g child ++ following
  pub continues : Continues g above child following t
