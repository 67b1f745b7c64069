-- The records of a tree's nodes, and the file of a tree after a pass. In these definitions g is a grammar, m has the passes of
-- its attributes, k is the number of a pass, s a symbol, p the number of a production and q the production itself, c a class, t a
-- tree, and v its values. For the children of a node, ts are trees and vs their values. An item is x, and xs are items. All of
-- this is this project's.
use Rattle.std.specs.Prelude.{◌≡◌, ℕ, suc, ◌+◌, ◌≤◌, nat_le, Bool, true, false, List, [], ◌∷◌, ◌++◌, Option, Some, None}
use Rattle.std.specs.Prelude.{slice_get, length, take, if◌then◌else◌}
use Rattle.ag_value.specs.declared.value.Value.{Value, Text}
use Rattle.ag_grammar.specs.declared.grammar.Item.TheVariants as item
use Rattle.ag_grammar.specs.declared.grammar.Item.{Item}
use Rattle.ag_grammar.specs.declared.grammar.Production.{Production}
use Rattle.ag_grammar.specs.declared.grammar.Symbol.{Symbol}
use Rattle.ag_grammar.specs.declared.grammar.Terminal.TheVariants.{Literal, Class}
use Rattle.ag_grammar.specs.grammars.AttributeGrammar.{Grammar, stored_items, IsProduction}
use Rattle.ag_grammar.specs.grammars.Tree as tree
use Rattle.ag_grammar.specs.grammars.Tree.{Tree, Forest}
use Rattle.ag_grammar.specs.grammars.Passes.{Passes, direction_of}
use Rattle.ag_grammar.specs.grammars.Solution.{Valuation, children, rest, left_passes, IsWellOn, NoRule, Solves}
use Rattle.treefile.specs.declared.body.Kind.TheVariants.{Node, Token}
use Rattle.treefile.specs.records.Orders.{BodyTree, BodyForest, branch, none, more, postfix}
use Rattle.treefile.specs.records.TreeFile.{Version, body_of, file}

-- the values of those attributes of a symbol whose pass is at most k, in declared order, from the passes and the values of all of
-- its attributes
abbrev pub values_up_to : ℕ → List ℕ → (ℕ → Value) → List Value
values_up_to k [] values = []
values_up_to k (pass ∷ passes) values =
    (if nat_le pass k then values 0 ∷ [] else []) ++ values_up_to k passes (λ a. values (suc a))

-- the number of a symbol's synthesized attributes, which are numbered before the inherited ones
abbrev pub synthesized_count : Option Symbol → ℕ
synthesized_count None = 0
synthesized_count (Some s) = length s.syn

-- the passes of a symbol's synthesized attributes
abbrev pub synthesized_passes : Grammar → Passes → ℕ → List ℕ
synthesized_passes g m s = take (synthesized_count (slice_get g.symbols s)) (m s)

-- the passes of the synthesized attributes of a production's left side
abbrev pub left_synthesized : Grammar → Passes → Option Production → List ℕ
left_synthesized g m None = []
left_synthesized g m (Some q) = synthesized_passes g m q.left

-- The values of a tree's root that its parent's record copies. For a token this is its `lex`. For another node these are
-- the values of the synthesized attributes whose pass is at most k.
abbrev pub copy_of : Grammar → Passes → ℕ → Tree → Valuation → List Value
copy_of g m k (tree.leaf c text) v = Text text ∷ []
copy_of g m k (tree.node p ts) v = values_up_to k (left_synthesized g m (slice_get g.productions p)) (v [])

-- the copies of a node's children, from left to right
abbrev pub copies_of : Grammar → Passes → ℕ → Forest → (ℕ → Valuation) → List Value
copies_of g m k tree.none vs = []
copies_of g m k (tree.more t ts) vs = copy_of g m k t (vs 0) ++ copies_of g m k ts (rest vs)

-- a record's own values, and after them the copies if the version has them
abbrev pub with_copies : Bool → List Value → List Value → List Value
with_copies false own copies = own
with_copies true own copies = own ++ copies

-- The record of a node: its production, and the values of those attributes of its symbol whose pass is at most
-- k. In a version with copies, copies of its children's synthesized values follow (`copies_of`).
abbrev pub node_body : Version → Grammar → Passes → ℕ → ℕ → (ℕ → Value) → List Value → List ℕ
node_body version g m k p values copies =
    body_of Node p (with_copies version.has_copies (values_up_to k (left_passes m (slice_get g.productions p)) values) copies)

-- The record of a token: its class and its `lex`, which is its text. It is the same in each pass.
abbrev pub token_body : ℕ → List ℕ → List ℕ
token_body c text = body_of Token c (Text text ∷ [])

-- the tree of the records of a tree, with the values up to pass k
abbrev mutual
  pub bodies_of : Version → Grammar → Passes → ℕ → Tree → Valuation → BodyTree
  bodies_of version g m k (tree.leaf c text) v = branch (token_body c text) none
  bodies_of version g m k (tree.node p ts) v =
      branch (node_body version g m k p (v []) (copies_of g m k ts (children v))) (bodies_of_all version g m k ts (children v))

  pub bodies_of_all : Version → Grammar → Passes → ℕ → Forest → (ℕ → Valuation) → BodyForest
  bodies_of_all version g m k tree.none vs = none
  bodies_of_all version g m k (tree.more t ts) vs =
      more (bodies_of version g m k t (vs 0)) (bodies_of_all version g m k ts (rest vs))

-- The file of pass k of a tree: its header has the number k, and its frames are those of the tree's records, in the postfix
-- list of the direction of that pass.
abbrev pub file_of_tree : Version → Grammar → Passes → ℕ → Tree → Valuation → List ℕ
file_of_tree version g m k t v = file version k (postfix (direction_of k) (bodies_of version g m k t v))

-- the greatest number of values in the copy of an item's tree
abbrev pub max_copied : Grammar → Passes → Item → ℕ
max_copied g m (item.Symbol s) = length (synthesized_passes g m s)
max_copied g m (item.Terminal (Class c)) = 1
max_copied g m (item.Terminal (Literal l)) = 0

-- the greatest number of values in the copies of some items' trees
abbrev pub max_copies : Grammar → Passes → List Item → ℕ
max_copies g m [] = 0
max_copies g m (x ∷ xs) = max_copied g m x + max_copies g m xs

-- the greatest number of values in the record of a node
abbrev pub max_stored_values : Bool → Grammar → Passes → Production → ℕ
max_stored_values false g m q = length (m q.left)
max_stored_values true g m q = length (m q.left) + max_copies g m (stored_items q.items)

-- No record has more values than the version allows: neither that of a token nor that of a node.
pub record FitsVersion (version : Version) (g : Grammar) (m : Passes) : Type 0 where
  pub tokens : 1 ≤ version.max_values
  pub nodes : (p : ℕ) (q : Production) → IsProduction g p q → max_stored_values version.has_copies g m q ≤ version.max_values

-- A content is the file of pass k of a tree and its values: these give each leaf its text, and those up to
-- pass k are well.
pub record IsFileOfTree (version : Version) (g : Grammar) (m : Passes) (k : ℕ) (t : Tree) (v : Valuation)
    (content : List ℕ) : Type 0 where
  pub occurs : content ≡ file_of_tree version g m k t v
  pub texts : Solves NoRule g t v
  pub well : IsWellOn (λ p. p ≤ k) g m t v
