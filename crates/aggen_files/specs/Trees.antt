-- What the calls over one tree file do. All of this is this project's.
use Rattle.std.specs.Prelude.{ℕ, ◌≡◌, ◌⊎◌, List, Bool, true}
use Rattle.ag_grammar.specs.grammars.AttributeGrammar.{Grammar}
use Rattle.ag_grammar.specs.grammars.Tree.{Tree, node_count}
use Rattle.tree_upgrade.specs.upgrading.Upgrading.{IsUpgraded}
use Rattle.treefile.specs.devices.Device.{WhenHonest}
use Rattle.treefile.specs.records.FirstFile.{IsFirstFile}
use Rattle.treefile.specs.records.TreeFile.{version_two}
use Rattle.treefile.specs.framing.Beginning.{LeavesBeginning}
use Rattle.aggen.specs.Sentences.{IsTreeOfSentence}
use Rattle.aggen.specs.Translation.{IsOneTree}

-- If the old file is honest (`honest_old`), its content `content` has exactly one tree, with `count` nodes. If the new file is
-- honest (`honest_tree`), its content `tree` has the same tree. `between` is the content of the device in memory that the
-- conversion uses.
abbrev pub UpgradesFile : Grammar → (honest_old : Bool) → List ℕ → (honest_tree : Bool) → List ℕ → ℕ → Type 0
UpgradesFile g honest_old content honest_tree tree count =
    WhenHonest honest_old ((between : List ℕ) × IsUpgraded g content between honest_tree tree count)

-- The sentence has exactly one tree, which is within the limits and has this number of nodes. If the file is honest, its content
-- is the file of pass 0 of this tree.
pub record ParsesSentence (g : Grammar) (sentence : List ℕ) (honest : Bool) (content : List ℕ) (count : ℕ) : Type 0 where
  pub tree : Tree
  pub one : IsOneTree (IsTreeOfSentence g sentence) tree
  pub file : WhenHonest honest (IsFirstFile version_two g tree content)
  pub nodes : count ≡ node_count tree

-- What a failed conversion leaves on the new device: the previous content, a prefix of a file of pass 0, or the whole converted
-- file. If the old device is not honest, this says nothing, since `UpgradesFile` says nothing then. `content` is the content of
-- the old device, and `old` and `new` are those of the new device before and after the call.
abbrev pub LeavesConversion : Grammar → (honest_old : Bool) → List ℕ → (old new : List ℕ) → Type 0
LeavesConversion g honest content old new =
    LeavesBeginning 0 old new ⊎ ((count : ℕ) × UpgradesFile g honest content true new count)
