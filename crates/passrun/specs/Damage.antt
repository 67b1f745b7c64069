-- Why a content is the file of no tree, or of no tree within the limits, and the offset at which that shows. A file is read from
-- its end, and this offset is the first one at which damage is met or a limit is exceeded. In these definitions s is a source,
-- c a setting, d a direction, and `at` an offset in bytes from 0. All definitions are this project's.
use Rattle.std.specs.Prelude.{ℕ, suc, ◌≡◌, ◌≢◌, ◌<◌, ◌≤◌, ◌⊎◌, List, [], ◌∷◌, length, true, false}
use Rattle.ag_grammar.specs.declared.direction.Direction.{Direction}
use Rattle.ag_grammar.specs.grammars.AttributeGrammar.{Grammar}
use Rattle.ag_grammar.specs.grammars.Passes.{Passes, direction_of, other}
use Rattle.ag_grammar.specs.grammars.Tree.{max_depth, max_nodes}
use Rattle.treefile.specs.framing.ExpectedRecords.{Breaks, Child, HasNoTree, HasNoTreeWithin, IsRecordOf, Pending, before_others}
use Rattle.treefile.specs.framing.ExpectedRecords.{pending_root}
use Rattle.treefile.specs.framing.Backward.{ReadsTo, next_before, pass_of}
use Rattle.treefile.specs.framing.Ending.{is_tree_file}
use Rattle.treefile.specs.records.TreeFile.{Version, version_two}
use Rattle.treefile.specs.Worked.{binary, binary_passes}
use Rattle.passcode.specs.Settings.{Setting}
use Rattle.pass_rows.specs.declared.run_fault.RunFault.{RunFault}
use Rattle.pass_rows.specs.declared.run_fault.RunFault.TheVariants as fault

-- How a file is read: its version, the grammar of the tree, the passes of the attributes, the number of the
-- file's pass, and the limits of the tree's levels and of its nodes.
pub record Source : Type 0 where
  pub version : Version
  pub grammar : Grammar
  pub passes : Passes
  pub pass : ℕ
  pub depth : ℕ
  pub nodes : ℕ

-- The source of the pass of a setting, which reads the file of the previous pass (its number is `c.read`).
abbrev pub source : Setting → Source
source c =
    record { version = version_two; grammar = c.grammar; passes = c.passes; pass = c.read; depth = max_depth; nodes = max_nodes }

-- A content begins as a tree file of the version and of the pass of a source.
pub record IsReadable (s : Source) (content : List ℕ) : Type 0 where
  pub begins : is_tree_file s.version content ≡ true
  pub number : pass_of content ≡ s.pass

-- Reading some bodies turns the list of children to be read (the third argument, `todo`) into the list `left`. An entry x of such
-- a list has a child x.1 and its level x.0. Each body is a record of the child that is then first in the list, and the level of
-- this child is within the limit. Its own children take its place in the list, in the direction d.
abbrev pub Leaves : Source → Direction → Pending → List (List ℕ) → Pending → Type 0
Leaves s d todo [] left = todo ≡ left
Leaves s d [] (body ∷ bodies) left = ⊥
Leaves s d (x ∷ xs) (body ∷ bodies) left =
    (ys : List Child) × (x.0 ≤ s.depth) × IsRecordOf s.version s.grammar s.passes s.pass x.1 body ys
    × Leaves s d (before_others d (suc x.0) ys xs) bodies left

-- The bodies that are read, from the end of a file, are records of the expected nodes: the root's first, and each node's before
-- those of its children. The children `todo` are still to be read. Reading a file from its end visits children in the direction
-- that is opposite to that of the file's pass.
abbrev pub AreRecords : Source → List (List ℕ) → Pending → Type 0
AreRecords s bodies todo = Leaves s (other (direction_of s.pass)) (pending_root s.grammar) bodies todo

-- From the end of a content back to an offset there are only frames, no more than the limit of nodes, and
-- their bodies are such records (`AreRecords`). The children `todo` are still to be read.
pub record ArrivesAt (s : Source) (content : List ℕ) (at : ℕ) (todo : Pending) : Type 0 where
  pub bodies : List (List ℕ)
  pub read : ReadsTo s.version content (length content) bodies at
  pub records : AreRecords s bodies todo
  pub few : length bodies ≤ s.nodes

-- After `count` bodies, the first child to be read, if there is one, exceeds neither the limit of levels nor that of nodes.
abbrev pub IsWithin : Source → Pending → (count : ℕ) → Type 0
IsWithin s [] count = Unit {0}
IsWithin s (x ∷ xs) count = (x.0 ≤ s.depth) × (count < s.nodes)

-- Reading meets damage at an offset that it reaches, and no limit is exceeded there. One of four facts holds: no frame ends
-- there; the frame that ends there has a body that is not a record of the first child to be read; a frame ends there, but no
-- child is to be read; or the header ends there, but a child is still to be read.
abbrev pub BreaksAt : Source → List ℕ → ℕ → Type 0
BreaksAt s content at =
    (todo : Pending) × (arrival : ArrivesAt s content at todo) × IsWithin s todo (length arrival.bodies)
    × Breaks s.version s.grammar s.passes s.pass todo (next_before s.version content at)

-- The offset at which a content shows that it is the file of no tree: 0 if it does not begin as a tree file of the version, 4 if
-- its header has the number of another pass, and otherwise the offset at which reading meets damage.
abbrev pub ShowsAt : Source → List ℕ → ℕ → Type 0
ShowsAt s content at =
    ((is_tree_file s.version content ≡ false) × (at ≡ 0))
    ⊎ (((is_tree_file s.version content ≡ true) × (pass_of content ≢ s.pass) × (at ≡ 4))
    ⊎ (IsReadable s content × BreaksAt s content at))

-- The limit of levels is exceeded before damage is met: at the offset `at`, the child `next` is to be read at the level `level`,
-- which is deeper than the limit, and after it `others`.
pub record ExceedsDepth (s : Source) (content : List ℕ) : Type 0 where
  pub readable : IsReadable s content
  pub at : ℕ
  pub level : ℕ
  pub next : Child
  pub others : Pending
  pub arrival : ArrivesAt s content at ((level, next) ∷ others)
  pub deep : s.depth < level

-- The limit of nodes is exceeded before damage is met: as many bodies were read as the limit allows, and a child within the limit
-- of levels is still to be read. The fields are as in `ExceedsDepth`.
pub record ExceedsNodes (s : Source) (content : List ℕ) : Type 0 where
  pub readable : IsReadable s content
  pub at : ℕ
  pub level : ℕ
  pub next : Child
  pub others : Pending
  pub arrival : ArrivesAt s content at ((level, next) ∷ others)
  pub within : level ≤ s.depth
  pub full : length arrival.bodies ≡ s.nodes

-- R1: the content is the file of no tree, and shows it at the offset.
pub record IsDamaged (s : Source) (content : List ℕ) (at : ℕ) : Type 0 where
  pub none : HasNoTree s.version s.grammar s.passes s.pass content
  pub shown : ShowsAt s content at

-- P2: the content is the file of no tree within the limit of levels, with any number of nodes, and reading
-- exceeds that limit.
pub record IsTooDeep (s : Source) (content : List ℕ) : Type 0 where
  pub none : (nodes : ℕ) → HasNoTreeWithin s.depth nodes s.version s.grammar s.passes s.pass content
  pub shown : ExceedsDepth s content

-- P3: the content is the file of no tree within the limit of nodes, at any depth, and reading exceeds
-- that limit.
pub record HasTooManyNodes (s : Source) (content : List ℕ) : Type 0 where
  pub none : (depth : ℕ) → HasNoTreeWithin depth s.nodes s.version s.grammar s.passes s.pass content
  pub shown : ExceedsNodes s content

-- What R1, P2 and P3 say of a content: damage shows at the offset, or a limit is exceeded. No content shows D1 or NoMemory.
abbrev pub Shows : Source → List ℕ → RunFault → Type 0
Shows s content (fault.Damaged at) = ShowsAt s content at
Shows s content fault.TooDeep = ExceedsDepth s content
Shows s content fault.TooManyNodes = ExceedsNodes s content
Shows s content fault.Device = ⊥
Shows s content fault.NoMemory = ⊥

-- How the file of pass k of a tree of binary fractions is read.
abbrev pub fractions : ℕ → Source
fractions k =
    record { version = version_two; grammar = binary; passes = binary_passes; pass = k; depth = max_depth; nodes = max_nodes }

-- How the file of pass 0 of a tree of binary fractions is read, with these limits.
abbrev pub fractions_within : (depth nodes : ℕ) → Source
fractions_within depth nodes =
    record { version = version_two; grammar = binary; passes = binary_passes; pass = 0; depth = depth; nodes = nodes }
