-- The origins of errors in a tree: the nodes that have a rule in which an error arises. In these definitions g is a grammar, t a
-- tree, and v its values. All of this is this project's.
use Rattle.std.specs.Prelude.{ℕ, zero, suc, ◌<◌, List, [], ◌∷◌, Option, Some, None, slice_get}
use Rattle.ag_grammar.specs.grammars.AttributeGrammar.{Grammar}
use Rattle.ag_grammar.specs.grammars.Solution.{Valuation, at, below}
use Rattle.ag_grammar.specs.grammars.Tree.{Forest, Tree, leaf, node, none, more}
use Rattle.origins.specs.Arising.{arising_count}

-- child number i, from 0, of a node with these children, if there is one
abbrev pub child : Forest → ℕ → Option Tree
child none i = None
child (more t ts) zero = Some t
child (more t ts) (suc i) = child ts i

-- child number i, from 0, of a tree, if there is one; a leaf has no children
abbrev pub child_of : Option Tree → ℕ → Option Tree
child_of None i = None
child_of (Some (leaf c x)) i = None
child_of (Some (node p ts)) i = child ts i

-- the number of rules at the root of a tree in which an error arises
abbrev pub arising_at : Grammar → Option Tree → Valuation → ℕ
arising_at g None v = 0
arising_at g (Some (leaf c x)) v = 0
arising_at g (Some (node p ts)) v = arising_count (slice_get g.productions p) (at v)

-- The node at the end of a path of child numbers from the root is an origin: it has a rule in which an error arises.
abbrev pub HasOrigin : Grammar → List ℕ → Option Tree → Valuation → Type 0
HasOrigin g [] t v = 0 < arising_at g t v
HasOrigin g (i ∷ path) t v = HasOrigin g path (child_of t i) (below i v)

-- no node of a tree is an origin
abbrev pub HasNoOrigin : Grammar → Tree → Valuation → Type 0
HasNoOrigin g t v = (path : List ℕ) → HasOrigin g path (Some t) v → ⊥
