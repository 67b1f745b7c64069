-- The reading of a tree file from its end, and the index of the nodes that were read. The letters g, m, k, t, v and d have the
-- meaning that they have in `Nodes.antt`. x is an item and q a production, o is an open node and os are open nodes. f is the
-- family of an open node (`Family`), and fs are families. All of this is this project's.
use Rattle.std.specs.Prelude.{ℕ, ◌≡◌, ◌+◌, ◌-◌, ◌<◌, ◌≤◌, ◌⊎◌, Bool, List, [], ◌∷◌, ◌++◌, map, drop, length, get_or, min, set}
use Rattle.std.specs.Prelude.{Some, Ok}
use Rattle.ag_grammar.specs.declared.direction.Direction.{Direction}
use Rattle.ag_grammar.specs.declared.grammar.Item.{Item}
use Rattle.ag_grammar.specs.declared.grammar.Item.TheVariants as item
use Rattle.ag_grammar.specs.declared.grammar.Production.{Production}
use Rattle.ag_grammar.specs.declared.grammar.Terminal.TheVariants.{Literal, Class}
use Rattle.ag_grammar.specs.declared.limits.TheConstants.{MAX_NODES}
use Rattle.ag_grammar.specs.grammars.Accepted.{IsAccepted}
use Rattle.ag_grammar.specs.grammars.AttributeGrammar.{Grammar, IsProduction, stored_items}
use Rattle.ag_grammar.specs.grammars.Passes.{Passes}
use Rattle.ag_grammar.specs.grammars.Solution.{Valuation}
use Rattle.ag_grammar.specs.grammars.Tree.{Fits, FitsAll, Forest, Tree, node_count}
use Rattle.backreader.specs.BackState.{BackState}
use Rattle.treefile.specs.declared.body.Kind.TheVariants.{Node, Token}
use Rattle.treefile.specs.devices.Device.{WhenHonest}
use Rattle.treefile.specs.records.TreeFile.{body_from, version_two}
use Rattle.treefile.specs.framing.Backward.{ReadsBack, before_frame, next_before}
use Rattle.tree_index.specs.Nodes.{AreEnds, OfEach, Subtree, back_from, in_order, kids, kind_at, nodes_in, nodes_of, record_at}
use Rattle.tree_index.specs.Nodes.{size_at}
use Rattle.tree_index.specs.declared.index.NodeKind.{NodeKind}
use Rattle.tree_index.specs.declared.index.NodeKind.TheVariants as kind
use Rattle.tree_index.specs.declared.index.TreeIndex.{TreeIndex}
use Rattle.tree_index.specs.declared.reading.Fetched.{Fetched}
use Rattle.tree_index.specs.declared.reading.OpenRecord.{OpenRecord}

-- A body begins as the record of an item, with this number of a production or a class. If the item is a symbol, the body is that
-- of a node, and the grammar has the production. This does not say that the left side of the production is the symbol.
abbrev pub BeginsRecord : Grammar → Item → List ℕ → ℕ → Type 0
BeginsRecord g (item.Symbol s) body number = (q : Production) × (bytes : List ℕ) × IsProduction g number q
    × (body ≡ body_from Node number bytes)
BeginsRecord g (item.Terminal (Class c)) body number = (bytes : List ℕ) × (number ≡ c) × (body ≡ body_from Token number bytes)
BeginsRecord g (item.Terminal (Literal l)) body number = ⊥

-- A record of the item x was read: it is the body of the frame that ends at the offset at which the reader was. Fewer than
-- 1,048,576 records were read before. `old` and `new` are the states of the reader before and after the call.
pub record HasFetched (g : Grammar) (honest : Bool) (content : List ℕ) (x : Item) (old new : BackState) (fetched : Fetched) : Type
    0 where
  pub body : List ℕ
  pub found : WhenHonest honest (next_before version_two content old.progress.at ≡ Ok (Some body))
  pub item : fetched.item ≡ x
  pub begins : BeginsRecord g x body fetched.number
  pub end : fetched.end ≡ old.progress.at
  pub now : new.progress.at ≡ before_frame old.progress.at body
  pub few : old.progress.records < MAX_NODES
  pub counted : new.progress.records ≡ old.progress.records + 1

-- A node was added to an index, with a subtree of one node.
pub record HasAdded (end : ℕ) (what : NodeKind) (old new : TreeIndex) : Type 0 where
  pub pass : new.pass ≡ old.pass
  pub ends : new.ends.items ≡ old.ends.items ++ end ∷ []
  pub kinds : new.kinds.items ≡ old.kinds.items ++ what ∷ []
  pub sizes : new.sizes.items ≡ old.sizes.items ++ 1 ∷ []

-- a count in four bytes: the count itself, or the greatest such number if it does not fit
abbrev pub in_four_bytes : ℕ → ℕ
in_four_bytes count = min count 4294967295

-- Node `number` of an index was closed: the size of its subtree is now the number of nodes from this node to the end of the
-- index. If the index has no such node, `set` changes nothing.
pub record HasClosed (number : ℕ) (old new : TreeIndex) : Type 0 where
  pub pass : new.pass ≡ old.pass
  pub ends : new.ends.items ≡ old.ends.items
  pub kinds : new.kinds.items ≡ old.kinds.items
  pub sizes : new.sizes.items ≡ set old.sizes.items number (in_four_bytes (length old.sizes.items - number))

-- `open_node` is a node of a production of an accepted grammar. It has the next number of the index, and none of its children
-- was visited.
pub record IsOpened (g : Grammar) (index : TreeIndex) (production : ℕ) (open_node : OpenRecord) : Type 0 where
  pub accepted : IsAccepted g
  pub number : open_node.number ≡ in_four_bytes (length index.ends.items)
  pub production_is : open_node.production ≡ production
  pub children : (q : Production) → IsProduction g production q → open_node.children ≡ length (stored_items q.items)
  pub visited : open_node.visited ≡ 0

-- The node of a record of an item was added to the index, and opened if it is one of a production. `end` is the offset at which
-- the record ends, and `number` is the number in it.
abbrev pub HasOpened : Grammar → Item → ℕ → ℕ → TreeIndex → TreeIndex → List OpenRecord → List OpenRecord → Type 0
HasOpened g (item.Symbol s) end number old new open_old open_new = (o : OpenRecord) × HasAdded end (kind.Node number) old new
    × IsOpened g old number o × (open_new ≡ open_old ++ o ∷ [])
HasOpened g (item.Terminal a) end number old new open_old open_new = HasAdded end (kind.Token number) old new
    × (open_new ≡ open_old)

-- the children of an open node, with their values
pub record Family : Type 0 where
  pub trees : Forest
  pub values : ℕ → Valuation

-- the children of an open node that are not visited yet, in the order in which the file is read
abbrev pub upcoming : Direction → OpenRecord → Family → List Subtree
upcoming d o f = drop o.visited (in_order d (kids f.trees f.values))

-- The nodes below open nodes that are not read yet, in the order in which the file is read. The list of open nodes begins with
-- the innermost one.
abbrev pub nodes_to_come : Direction → List OpenRecord → List Family → List Subtree
nodes_to_come d [] fs = []
nodes_to_come d (o ∷ os) [] = []
nodes_to_come d (o ∷ os) (f ∷ fs) = nodes_in d (upcoming d o f) ++ nodes_to_come d os fs

-- Each open node has a production of the grammar, and its children are trees of the production's items.
abbrev pub AreOpen : Grammar → List OpenRecord → List Family → Type 0
AreOpen g [] [] = Unit {0}
AreOpen g [] (f ∷ fs) = ⊥
AreOpen g (o ∷ os) [] = ⊥
AreOpen g (o ∷ os) (f ∷ fs) = (q : Production) × IsProduction g o.production q × FitsAll g (stored_items q.items) f.trees
    × (o.children ≡ length (stored_items q.items)) × AreOpen g os fs

-- `sizes` has the size of the subtree of each node, n nodes were read, and the list of open nodes begins with the innermost one.
-- The subtree of an open node has the nodes from its number up to, but not including, e: its number plus its size. The innermost
-- open node has a number below n, and its e is n plus the number of nodes in the subtrees of its unvisited children. The same
-- holds for the next open node in the list, with this e in place of n, and so on.
abbrev pub AreEnding : Direction → List ℕ → ℕ → List OpenRecord → List Family → Type 0
AreEnding d sizes n [] fs = Unit {0}
AreEnding d sizes n (o ∷ os) [] = ⊥
AreEnding d sizes n (o ∷ os) (f ∷ fs) = (o.number + get_or sizes o.number 0 ≡ n + length (nodes_in d (upcoming d o f)))
    × (o.number < n) × AreEnding d sizes (n + length (nodes_in d (upcoming d o f))) os fs

-- The number is that of one of the open nodes.
abbrev pub IsOpenNumber : ℕ → List OpenRecord → Type 0
IsOpenNumber i [] = ⊥
IsOpenNumber i (o ∷ os) = (i ≡ o.number) ⊎ IsOpenNumber i os

-- The sizes that an index has so far are the right ones, except those of open nodes.
abbrev pub AreSizes : List ℕ → List ℕ → List OpenRecord → Type 0
AreSizes sizes so_far os = (i : ℕ) → i < length so_far → (get_or so_far i 0 ≡ get_or sizes i 0) ⊎ IsOpenNumber i os

-- An index has the nodes of a tree that were read: `records` nodes, at most 1,048,576. `pending` are those that are not read yet,
-- and `os` are the open nodes.
pub record IsBegun (g : Grammar) (m : Passes) (k : ℕ) (t : Tree) (v : Valuation) (content : List ℕ) (records : ℕ)
    (os : List OpenRecord) (index : TreeIndex) (pending : List Subtree) : Type 0 where
  pub read : List Subtree
  pub all : nodes_of (back_from k) t v ≡ read ++ pending
  pub pass : index.pass ≡ k
  pub ends : AreEnds content index.ends.items (map (record_at g m k) read)
  pub kinds : index.kinds.items ≡ map kind_at read
  pub long : length index.sizes.items ≡ length read
  pub sizes : AreSizes (map size_at (nodes_of (back_from k) t v)) index.sizes.items os
  pub counted : length read ≡ records
  pub few : records ≤ MAX_NODES

-- The state of the reading between two records. `records` records were read, and the index has their nodes. The records of the
-- other nodes, which are below the open nodes, are between the header and offset `at`.
pub record IsSoFar (g : Grammar) (m : Passes) (k : ℕ) (t : Tree) (v : Valuation) (content : List ℕ) (at records : ℕ)
    (os : List OpenRecord) (index : TreeIndex) : Type 0 where
  pub families : List Family
  pub fit : AreOpen g os families
  pub begun : IsBegun g m k t v content records os index (nodes_to_come (back_from k) os families)
  pub ending : AreEnding (back_from k) (map size_at (nodes_of (back_from k) t v)) records os families
  pub left : ReadsBack version_two content at (map (record_at g m k) (nodes_to_come (back_from k) os families))

-- The state of the reading before a record of the item x: a subtree that fits this item comes next, and then the nodes that are
-- not read yet below the open nodes.
pub record IsPending (g : Grammar) (m : Passes) (k : ℕ) (t : Tree) (v : Valuation) (content : List ℕ) (at records : ℕ) (x : Item)
    (os : List OpenRecord) (index : TreeIndex) : Type 0 where
  pub tree : Tree
  pub values : Valuation
  pub fits : Fits g x tree
  pub families : List Family
  pub fit : AreOpen g os families
  pub begun : IsBegun g m k t v content records os index (nodes_of (back_from k) tree values ++ nodes_to_come (back_from k) os
      families)
  pub ending : AreEnding (back_from k) (map size_at (nodes_of (back_from k) t v)) (records + node_count tree) os families
  pub left : ReadsBack version_two content at (map (record_at g m k)
      (nodes_of (back_from k) tree values ++ nodes_to_come (back_from k) os families))

-- If the content is the file of some pass of a tree with some values, `IsSoFar` holds of these.
abbrev pub HasComeTo : Grammar → List ℕ → BackState → List OpenRecord → TreeIndex → Type 0
HasComeTo g content back os index = OfEach (λ m k t v. IsSoFar g m k t v content back.progress.at back.progress.records os index)
    g content

-- If the content is the file of some pass of a tree with some values, `IsPending` holds of these.
abbrev pub IsNextRecord : Grammar → List ℕ → BackState → Item → List OpenRecord → TreeIndex → Type 0
IsNextRecord g content back x os index =
    OfEach (λ m k t v. IsPending g m k t v content back.progress.at back.progress.records x os
    index) g content
