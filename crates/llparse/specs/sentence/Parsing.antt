-- The invariants of a parser (this project's).
use Rattle.std.specs.Prelude.{◌≡◌, ℕ, Bool, suc, ◌+◌, ◌-◌, ◌*◌, ◌≤◌, List, [], ◌∷◌, ◌++◌, length, take, drop, slice_get}
use Rattle.ag_value.specs.declared.value.Value.{Value}
use Rattle.ag_grammar.specs.declared.grammar.Item.{Item}
use Rattle.ag_grammar.specs.declared.grammar.Production.{Production}
use Rattle.ag_grammar.specs.grammars.AttributeGrammar.{Grammar}
use Rattle.ag_grammar.specs.grammars.Tree.{Tree, leaf, node, Forest, none, more, depth_of, deepest, node_count, max_depth}
use Rattle.ag_grammar.specs.grammars.Tree.{max_nodes}
use Rattle.ag_grammar.specs.grammars.Yield.{Lexeme}
use Rattle.ag_grammar.specs.grammars.Yield as yields
use Rattle.ag_scan.specs.Tokens.{Token}
use Rattle.treefile.specs.devices.Device.{WhenHonest}
use Rattle.treefile.specs.records.FirstFile.{leaf_texts}
use Rattle.treefile.specs.records.Records.{token_body}
use Rattle.treefile.specs.records.TreeFile.{body_of, frame}
use Rattle.treefile.specs.declared.body.Kind.TheVariants.{Node}
use Rattle.llparse.specs.Ahead.{ahead_of}
use Rattle.llparse.specs.sentence.Opened.{Open, open_at, opened, Completes, ContinuesWith, IsStack, FitsStack}
use Rattle.llparse.specs.sentence.Sentences.{IsTreeWith, IsStuckAt, LeavesOnlyDeeper, LeavesOnlyLarger, words_of}
use Rattle.llparse.specs.declared.sentence.parse_fault.ParseFault.{ParseFault}
use Rattle.llparse.specs.declared.sentence.parse_fault.ParseFault.TheVariants as fault
use Rattle.llparse.specs.declared.sentence.parser.OpenProduction.{OpenProduction}

-- The input of a parse, its limits of levels and of nodes, whether the device is honest when the parse ends, and the device's
-- content before the parse (`prefix`).
pub record Task : Type 0 where
  pub grammar : Grammar
  pub words : List Lexeme
  pub depth : ℕ
  pub nodes : ℕ
  pub honest : Bool
  pub prefix : List ℕ

-- the task of parsing these tokens by the grammar g, with the limits of the program; `honest` and `prefix` are as in `Task`
abbrev pub task_of : Grammar → List Token → Bool → List ℕ → Task
task_of g tokens honest prefix =
    record { grammar = g; words = words_of tokens; depth = max_depth; nodes = max_nodes; honest = honest; prefix = prefix }

-- the right side of the production with this number, empty if there is none
abbrev pub right_side : Grammar → ℕ → List Item
right_side g p = yields.right_side (slice_get g.productions p)

-- the frames of a leaf and of a node; a node has no value of its own yet, but copies of the texts of its children that are leaves
abbrev pub leaf_frame : ℕ → List ℕ → List ℕ
leaf_frame c x = frame (token_body c x)

abbrev pub node_frame : ℕ → List Value → List ℕ
node_frame p texts = frame (body_of Node p texts)

-- the frames of a tree from left to right, each node after its children
abbrev mutual
  pub tree_frames : Tree → List ℕ
  tree_frames (leaf c x) = leaf_frame c x
  tree_frames (node p ts) = forest_frames ts ++ node_frame p (leaf_texts ts)

  pub forest_frames : Forest → List ℕ
  forest_frames none = []
  forest_frames (more t ts) = tree_frames t ++ forest_frames ts

-- the trees whose words are those of the task before an index, and then `rest`
abbrev pub IsTreeAfter : Task → ℕ → List Lexeme → Tree → Type 0
IsTreeAfter k i rest = IsTreeWith k.grammar (take i k.words ++ rest)

-- the texts of those trees in `done` that are leaves, for all open nodes, those of the outermost node first
abbrev pub kept : List Open → List Value
kept [] = []
kept (o ∷ os) = kept os ++ leaf_texts o.done

-- The parser's stack agrees with the open nodes: each entry has the node's production, the number of items that are passed, and
-- the number of texts that are kept before the node's own.
abbrev pub Shows : Grammar → List Open → List OpenProduction → Type 0
Shows g [] [] = Unit {0}
Shows g [] (f ∷ fs) = ⊥
Shows g (o ∷ os) [] = ⊥
Shows g (o ∷ os) (f ∷ fs) =
    (o.production ≡ f.production) × (o.rest ≡ drop f.passed (right_side g f.production)) × (f.base ≡ length (kept os))
    × Shows g os fs

-- the records of the trees that are done, those of the outermost node first
abbrev pub written : List Open → List ℕ
written [] = []
written (o ∷ os) = written os ++ forest_frames o.done

-- the output of a parser: the bytes that the device has, and the texts that the parser keeps
pub record Output : Type 0 where
  pub bytes : List ℕ
  pub texts : List Value

-- each tree that is done is within the depth limit at its level
abbrev pub IsShallow : ℕ → List Open → Type 0
IsShallow depth [] = Unit {0}
IsShallow depth (o ∷ os) = (deepest o.done + suc (length os) ≤ depth) × IsShallow depth os

-- The position `at` in the words, the count of nodes, and the output (`made`: records and texts) agree with the open nodes os.
-- The count and the levels are within the limits.
pub record Agrees (k : Task) (os : List Open) (at count : ℕ) (made : Output) : Type 0 where
  pub within : at ≤ length k.words
  pub content : WhenHonest k.honest (made.bytes ≡ k.prefix ++ written os)
  pub texts : made.texts ≡ kept os
  pub counted : count ≡ opened os
  pub few : count ≤ k.nodes
  pub shallow : IsShallow k.depth os

-- A node of production p is open. Its remaining items are ys, its texts begin at `base`, and the nodes of the stack fs are around
-- it; `at`, `count` and `made` are as in `Agrees`. A tree that completes these nodes begins with the words read so far (`sound`).
-- A tree that begins with these words, and continues with the look-ahead, completes these nodes (`complete`).
pub record Reading (k : Task) (p base : ℕ) (ys : List Item) (fs : List OpenProduction) (at count : ℕ)
    (made : Output) : Type 0 where
  pub done : Forest
  pub under : List Open
  pub shows : Shows k.grammar under fs
  pub begins : base ≡ length (kept under)
  pub held : Agrees k (open_at p done ys ∷ under) at count made
  pub occurs : FitsStack k.grammar (open_at p done ys) under
  pub sound : (rest : List Lexeme) (t : Tree) → Completes k.grammar (open_at p done ys) under rest t → IsTreeAfter k at rest t
  pub complete : (rest : List Lexeme) (t : Tree) → ahead_of rest ≡ ahead_of (drop at k.words) → IsTreeAfter k at rest t
      → Completes k.grammar (open_at p done ys) under rest t

-- A tree of symbol s comes next, below the nodes of the stack fs. `sound` and `complete` say of the trees that continue with a
-- tree of s what they say in `Reading`.
pub record AtSymbol (k : Task) (s : ℕ) (fs : List OpenProduction) (at count : ℕ) (made : Output) : Type 0 where
  pub under : List Open
  pub shows : Shows k.grammar under fs
  pub held : Agrees k under at count made
  pub occurs : IsStack k.grammar under s
  pub sound : (rest : List Lexeme) (t : Tree) → ContinuesWith k.grammar under s rest t → IsTreeAfter k at rest t
  pub complete : (rest : List Lexeme) (t : Tree) → ahead_of rest ≡ ahead_of (drop at k.words) → IsTreeAfter k at rest t
      → ContinuesWith k.grammar under s rest t

-- A tree is done, and nothing is open; it is the one tree of the words read so far, and no tree continues them with the terminal
-- of the next word.
pub record Finished (k : Task) (at count : ℕ) (bytes : List ℕ) : Type 0 where
  pub tree : Tree
  pub within : at ≤ length k.words
  pub content : WhenHonest k.honest (bytes ≡ k.prefix ++ tree_frames tree)
  pub counted : count ≡ node_count tree
  pub few : count ≤ k.nodes
  pub shallow : depth_of tree ≤ k.depth
  pub sound : IsTreeAfter k at [] tree
  pub complete : (rest : List Lexeme) (t : Tree) → ahead_of rest ≡ ahead_of (drop at k.words) → IsTreeAfter k at rest t
      → (rest ≡ []) × (t ≡ tree)

-- A parser is between two steps: the first node of its stack, the innermost, is open after the items that are passed; or the
-- stack is empty, and the tree is done.
abbrev pub Between : Task → List OpenProduction → ℕ → ℕ → Output → Type 0
Between k [] at count made = Finished k at count made.bytes
Between k (f ∷ fs) at count made =
    Reading k f.production f.base (drop f.passed (right_side k.grammar f.production)) fs at count made

-- The first node of the stack, the innermost, has just passed an item, which is not parsed yet.
abbrev pub AtItem : Task → Item → List OpenProduction → ℕ → ℕ → Output → Type 0
AtItem k x [] at count made = ⊥
AtItem k x (f ∷ fs) at count made =
    Reading k f.production f.base (x ∷ drop f.passed (right_side k.grammar f.production)) fs at count made

-- the tree of a task's words, within its limits, whose records are written
pub record IsParsed (k : Task) (count : ℕ) (bytes : List ℕ) : Type 0 where
  pub tree : Tree
  pub has_words : IsTreeWith k.grammar k.words tree
  pub only : (t : Tree) → IsTreeWith k.grammar k.words t → t ≡ tree
  pub content : WhenHonest k.honest (bytes ≡ k.prefix ++ tree_frames tree)
  pub counted : count ≡ node_count tree
  pub few : node_count tree ≤ k.nodes
  pub shallow : depth_of tree ≤ k.depth

-- a task's words leave only trees that are too deep, or that have too many nodes
abbrev pub IsTooDeep : Task → Type 0
IsTooDeep k = LeavesOnlyDeeper k.depth k.grammar k.words

abbrev pub IsTooLarge : Task → Type 0
IsTooLarge k = LeavesOnlyLarger k.nodes k.grammar k.words

-- the meaning of a fault; `offset` maps the index of a token to its offset in the sentence
abbrev pub IsRefused : Task → (ℕ → ℕ) → ParseFault → Type 0
IsRefused k offset (fault.Unexpected at) = (i : ℕ) × IsStuckAt k.grammar k.words i × (at ≡ offset i)
IsRefused k offset fault.TooDeep = IsTooDeep k
IsRefused k offset fault.TooManyNodes = IsTooLarge k
IsRefused k offset fault.Device = Unit {0}
IsRefused k offset fault.NoMemory = Unit {0}

-- the sum of the lengths of the right sides, so no right side is longer than this sum
abbrev pub total_length : List Production → ℕ
total_length [] = 0
total_length (q ∷ qs) = length q.items + total_length qs

-- the greatest number of steps that remain if no more nodes are opened: for each node of the stack, one for each item that
-- remains, and one for its end
abbrev pub own_steps : Grammar → List OpenProduction → ℕ
own_steps g [] = 0
own_steps g (f ∷ fs) = suc (length (drop f.passed (right_side g f.production))) + own_steps g fs

-- A bound of the number of steps that remain (`left` means remaining, not a left side). A node that is opened adds at most
-- `total_length g.productions + 1` steps to `own_steps`; the factor is greater by one, so that opening makes the bound smaller.
abbrev pub steps_left : Grammar → ℕ → List OpenProduction → ℕ → ℕ
steps_left g nodes fs count = (total_length g.productions + 2) * (nodes - count) + own_steps g fs
