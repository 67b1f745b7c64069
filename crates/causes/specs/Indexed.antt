-- A chain (`Chains.antt`) can be followed in a tree file, with an index that numbers the nodes of the file's tree. These
-- definitions state what such a chain shows about the tree. g is a grammar, m the passes of its attributes, k the number of a
-- pass, t a tree and v its values. All of this is this project's.
use Rattle.std.specs.Prelude.{ℕ, suc, ◌≡◌, ◌^◌, ◌<◌, ◌≤◌, ◌⊎◌, List, [], ◌∷◌, ◌++◌, map, reverse, Some, None, Ok}
use Rattle.ag_value.specs.declared.value.Value.{Value}
use Rattle.ag_grammar.specs.declared.direction.Direction.{Direction}
use Rattle.ag_grammar.specs.declared.grammar.Target.{Target}
use Rattle.ag_grammar.specs.declared.grammar.Production.{Production}
use Rattle.ag_grammar.specs.grammars.Accepted.{IsAccepted}
use Rattle.ag_grammar.specs.grammars.AttributeGrammar.{Grammar, IsProduction}
use Rattle.ag_grammar.specs.grammars.Passes.{IsLegal, Passes}
use Rattle.ag_grammar.specs.grammars.Running.{IsLastPass}
use Rattle.ag_grammar.specs.grammars.Solution.{Valuation}
use Rattle.ag_grammar.specs.grammars.Tree.{IsTreeOf, Tree}
use Rattle.treefile.specs.records.Records.{IsFileOfTree}
use Rattle.treefile.specs.records.TreeFile.{version_two}
use Rattle.treefile.specs.framing.Ending.{body_before}
use Rattle.tree_index.specs.Nodes.{HasNoChild, HasNodes, IsIndexIn, IsSubtreeAt, OfEach, back_from, end_of, kind_in, nodes_of}
use Rattle.tree_index.specs.declared.fault.TreeFault.{TreeFault}
use Rattle.tree_index.specs.declared.fault.TreeFault.TheVariants as fault
use Rattle.tree_index.specs.declared.index.NodeKind.TheVariants as kind
use Rattle.tree_index.specs.declared.index.TreeIndex.{TreeIndex}
use Rattle.origins.specs.Causes.{HasCause, place_path, tree_at, values_at}
use Rattle.origins.specs.Records.{IsNode}
use Rattle.causes.specs.Chains.{HasNoErrorAt, IsCause, IsChain, IsInRecord, Reading}
use Rattle.causes.specs.Laws.{IsInTree, in_tree}
use Rattle.causes.specs.declared.chain.PathNode.{PathNode}
use Rattle.causes.specs.declared.next_rule.Next.TheVariants as rule_does

-- The node of a tree at the end of some places, which count from 1, has this number if the nodes are numbered, from 0, in the
-- prefix order of direction d.
pub record IsAtPlaces (d : Direction) (t : Tree) (v : Valuation) (places : List ℕ) (number : ℕ) : Type 0 where
  pub path : List ℕ
  pub counted : places ≡ map suc path
  pub tree : Tree
  pub there : tree_at (Some t) path ≡ Some tree
  pub occurs : IsSubtreeAt d (nodes_of d t v) number tree (values_at v path)

-- In each tree of the grammar that the index has, there is a node at the end of some places, and it has this number.
abbrev pub IsNumberAt : Grammar → TreeIndex → List ℕ → ℕ → Type 0
IsNumberAt g index places number = (k : ℕ) (t : Tree) (v : Valuation) → HasNodes k t v index → IsTreeOf g t
    → IsAtPlaces (back_from k) t v places number

-- An offset is the end of the record, in the index, of the node at the end of some places.
pub record IsEndAt (g : Grammar) (index : TreeIndex) (places : List ℕ) (end : ℕ) : Type 0 where
  pub number : ℕ
  pub numbered : IsNumberAt g index places number
  pub ends : end_of index number ≡ Some end

-- the places that lead from the root to the first of some nodes; each node is a child of the next one, and the last one is a
-- child of the root
abbrev pub way : List PathNode → List ℕ
way [] = []
way (n ∷ ns) = way ns ++ n.place ∷ []

-- For each suffix n ∷ ns of the list, the places `way (n ∷ ns)` lead from the root to the node with the number n.node. As in
-- `way`, each node of the list is a child of the next one.
abbrev pub AreLed : Grammar → TreeIndex → List PathNode → Type 0
AreLed g index [] = Unit {0}
AreLed g index (n ∷ ns) = IsNumberAt g index (way (n ∷ ns)) n.node × AreLed g index ns

-- `AreLed` of the reversed list: `nodes` begins with the outermost node, a child of the root
abbrev pub Leads : Grammar → TreeIndex → List PathNode → Type 0
Leads g index nodes = AreLed g index (reverse nodes)

-- P holds of each tree of the grammar and its values, if the content is their file of the last pass of a legal assignment, and
-- the number of this pass is below 2^16.
abbrev pub OfEachLast : (Tree → Valuation → Type 0) → Grammar → List ℕ → Type 0
OfEachLast P g content = (m : Passes) (k : ℕ) (t : Tree) (v : Valuation) → k < 2 ^ 16 → IsLegal g m → IsLastPass k m
    → IsTreeOf g t → IsFileOfTree version_two g m k t v content → P t v

-- The reading of a content with an index: the rule does this with the values of a record of the content and, if the index is
-- that of the content, with those of each tree whose file the content is.
abbrev pub in_file : Grammar → TreeIndex → List ℕ → Reading
in_file g index content places target does = IsInRecord g content target does
    × (IsIndexIn g content index → OfEachLast (λ t v. IsInTree g t v places target does) g content)

-- A cause is found along the nodes of a tree, and the error of the attribute that the first rule computes has a cause.
pub record IsCauseOf (g : Grammar) (places : List ℕ) (target : Target) (there : List ℕ) (number n : ℕ) (t : Tree) (v : Valuation)
    : Type 0 where
  pub found : IsCause (in_tree g t v) places target there number n
  pub caused : (path : List ℕ) → places ≡ map suc path → HasCause g t v (place_path path target.place) target.attr

-- If the index is that of the content, `IsCauseOf` holds of each tree whose file of the last pass the content is.
abbrev pub IsCauseIn : Grammar → TreeIndex → List ℕ → List ℕ → Target → List ℕ → ℕ → ℕ → Type 0
IsCauseIn g index content places target there number n = IsIndexIn g content index
    → OfEachLast (IsCauseOf g places target there number n) g content

-- The node with this number is, by the index, one of a production of an accepted grammar with this left side.
pub record IsNodeOf (g : Grammar) (index : TreeIndex) (number left : ℕ) : Type 0 where
  pub accepted : IsAccepted g
  pub production : ℕ
  pub of : Production
  pub is_node : kind_in index number ≡ Some (kind.Node production)
  pub there : IsProduction g production of
  pub left_is : of.left ≡ left

-- An offset is the end of the record, in the index, of the node at the end of some places, and the node is one of this symbol.
pub record IsSymbolAt (g : Grammar) (index : TreeIndex) (places : List ℕ) (end symbol : ℕ) : Type 0 where
  pub at : IsEndAt g index places end
  pub node : IsNodeOf g index at.number symbol

-- If the index is that of the content, the content is the file of no tree.
abbrev pub IsOfNoTree : Grammar → TreeIndex → List ℕ → Type 0
IsOfNoTree g index content = IsIndexIn g content index → OfEach (λ m k t v. ⊥) g content

-- A fault of reading records along a chain. R1 has the offset at which the record of a node ends by the index, and comes only if
-- the content is the file of no tree. P2 and P3 don't come.
abbrev pub IsChainFault : Grammar → TreeIndex → List ℕ → TreeFault → Type 0
IsChainFault g index content (fault.Damaged at) = (places : List ℕ) × IsEndAt g index places at × IsOfNoTree g index content
IsChainFault g index content fault.TooDeep = ⊥
IsChainFault g index content fault.TooManyNodes = ⊥
IsChainFault g index content fault.Device = Unit {0}
IsChainFault g index content fault.NoMemory = Unit {0}

-- The index has no node of this number that is one of a production of the grammar, or has no end of the node's record.
abbrev pub HasNoRecord : Grammar → TreeIndex → ℕ → Type 0
HasNoRecord g index number = (p : ℕ) (q : Production) → kind_in index number ≡ Some (kind.Node p) → IsProduction g p q
    → end_of index number ≡ None

-- The index has no record of a node of a production at the end of some places: the node there is a token, or its production is
-- not one of the grammar, or the index has no such node, or no end of its record.
pub record IsWithoutRecord (g : Grammar) (index : TreeIndex) (places : List ℕ) : Type 0 where
  pub number : ℕ
  pub numbered : IsNumberAt g index places number
  pub none : HasNoRecord g index number

-- A record of the content ends at the offset that the index has for the node at the end of some places. With the values of this
-- record no rule for the target has an error as its value (`HasNoErrorAt`, which looks at the first 65,536 rules).
pub record IsWithoutError (g : Grammar) (index : TreeIndex) (content places : List ℕ) (target : Target) : Type 0 where
  pub end : ℕ
  pub ends : IsEndAt g index places end
  pub body : List ℕ
  pub there : body_before version_two content end ≡ Ok body
  pub production : ℕ
  pub values : List Value
  pub is_node : IsNode g body production values
  pub none : HasNoErrorAt g production values target

-- The node at the end of some places has no child at a place, in each tree of the grammar that the index has and that has fewer
-- than 2 ^ 32 nodes (`HasNoChild`).
pub record HasNoChildAt (g : Grammar) (index : TreeIndex) (places : List ℕ) (place : ℕ) : Type 0 where
  pub number : ℕ
  pub numbered : IsNumberAt g index places number
  pub none : HasNoChild g index number place

-- No node has a rule for this argument of a rule at the node at the end of some places. The argument is an attribute of the root
-- itself, or of a child that the node does not have.
abbrev pub GoesNowhere : Grammar → TreeIndex → List ℕ → Target → Type 0
GoesNowhere g index places argument = ((argument.place ≡ 0) × (places ≡ []))
    ⊎ ((0 < argument.place) × HasNoChildAt g index places argument.place)

-- The rule for a target passes on the error of an argument for which no node has a rule.
pub record IsPassedFromNowhere (g : Grammar) (index : TreeIndex) (content places : List ℕ) (target : Target) : Type 0 where
  pub argument : Target
  pub passes : in_file g index content places target (rule_does.Passes argument)
  pub nowhere : GoesNowhere g index places argument

-- A chain stops at a node: the index lacks its record, no rule for the target has an error, or the argument has no rule.
abbrev pub Stops : Grammar → TreeIndex → List ℕ → List ℕ → Target → Type 0
Stops g index content places target = IsWithoutRecord g index places ⊎ IsWithoutError g index content places target
    ⊎ IsPassedFromNowhere g index content places target

-- A chain stops without a cause, or at least `limit` rules of the chain passed the error on.
pub record StopsAfter (g : Grammar) (index : TreeIndex) (content places : List ℕ) (target : Target) (limit : ℕ) : Type 0 where
  pub there : List ℕ
  pub from : Target
  pub rules : ℕ
  pub chain : IsChain (in_file g index content) places target there from rules
  pub stops : (limit ≤ rules) ⊎ Stops g index content there from

-- On the way along some places a node has no child at the next place.
pub record LeadsNowhere (g : Grammar) (index : TreeIndex) (places : List ℕ) : Type 0 where
  pub prefix : List ℕ
  pub place : ℕ
  pub others : List ℕ
  pub split : places ≡ prefix ++ place ∷ others
  pub none : HasNoChildAt g index prefix place
