-- The file of pass 0 of a tree, in which no attribute but the `lex` of tokens has a value: it determines only the tree. The
-- letters are those of `Records.antt`, but x is the text of a token, and us are trees too. All of this is this project's.
use Rattle.std.specs.Prelude.{ℕ, ◌≤◌, List, [], ◌∷◌}
use Rattle.ag_value.specs.declared.value.Value.{Value, Text}
use Rattle.ag_grammar.specs.Lists.{Each}
use Rattle.ag_grammar.specs.grammars.AttributeGrammar.{Grammar}
use Rattle.ag_grammar.specs.grammars.Passes.{Passes, direction_of}
use Rattle.ag_grammar.specs.grammars.Solution.{NoRule, Solves, Valuation}
use Rattle.ag_grammar.specs.grammars.Tree as tree
use Rattle.ag_grammar.specs.grammars.Tree.{Forest, IsTreeOf, IsWithinLimits, Tree}
use Rattle.treefile.specs.declared.body.Kind.TheVariants.{Node}
use Rattle.treefile.specs.records.Orders.{BodyForest, BodyTree, branch, more, none, postfix}
use Rattle.treefile.specs.records.Records.{IsFileOfTree, token_body, with_copies}
use Rattle.treefile.specs.records.TreeFile.{Version, body_of, file}

-- each pass is at least 1, so that no attribute has a value before the first pass
abbrev pub AreFromOne : Passes → Type 0
AreFromOne m = (s : ℕ) → Each (λ k. 1 ≤ k) (m s)

-- no attribute has a pass
abbrev pub no_passes : Passes
no_passes s = []

-- The content is the file of pass 0 of a tree, by each assignment in which all passes are from 1 on, and with all values that
-- give each leaf its text.
abbrev pub IsFirstFile : Version → Grammar → Tree → List ℕ → Type 0
IsFirstFile version g t content = (m : Passes) (v : Valuation) → AreFromOne m → Solves NoRule g t v
    → IsFileOfTree version g m 0 t v content

-- the content is the file of pass 0 of no tree of the grammar
abbrev pub HasNoFirstTree : Version → Grammar → List ℕ → Type 0
HasNoFirstTree version g content = (t : Tree) → IsTreeOf g t → IsFirstFile version g t content → ⊥

-- the content is the file of pass 0 of no tree of the grammar within a depth and a number of nodes
abbrev pub HasNoFirstTreeWithin : (depth nodes : ℕ) → Version → Grammar → List ℕ → Type 0
HasNoFirstTreeWithin depth nodes version g content = (t : Tree) → IsTreeOf g t → IsWithinLimits depth nodes t
    → IsFirstFile version g t content → ⊥

-- the texts of the leaves among some trees, from left to right
abbrev pub leaf_texts : Forest → List Value
leaf_texts tree.none = []
leaf_texts (tree.more (tree.leaf c x) ts) = Text x ∷ leaf_texts ts
leaf_texts (tree.more (tree.node p us) ts) = leaf_texts ts

-- The tree of the records. A token's record has its class and its text. A node's record has its production and, in a
-- version with copies, the texts of those children that are tokens.
abbrev mutual
  pub first_bodies : Version → Tree → BodyTree
  first_bodies version (tree.leaf c x) = branch (token_body c x) none
  first_bodies version (tree.node p ts) =
      branch (body_of Node p (with_copies version.has_copies [] (leaf_texts ts))) (first_bodies_all version ts)

  pub first_bodies_all : Version → Forest → BodyForest
  first_bodies_all version tree.none = none
  first_bodies_all version (tree.more t ts) = more (first_bodies version t) (first_bodies_all version ts)

-- the file with the frames of these records
abbrev pub first_file : Version → Tree → List ℕ
first_file version t = file version 0 (postfix (direction_of 0) (first_bodies version t))
