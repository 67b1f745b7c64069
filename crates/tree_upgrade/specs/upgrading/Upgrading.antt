-- Converting a tree file of version 1 to version 2. All definitions are this project's. The letters: g is a grammar, x is an
-- item, xs are items, s is a symbol, p the number of a production and q the production, c and d are classes, v is a value, r is a
-- record of version 1, and f is a fault. `content` is the content of the old file's device. `honest` says whether a device is
-- honest: in `IsUpgrading` and `HasTaken` the old file's, and elsewhere the one that is written.
use Rattle.std.specs.Prelude.{ℕ, suc, ◌≡◌, ◌+◌, ◌-◌, ◌<◌, ◌≤◌, Bool, false, List, [], ◌∷◌, ◌++◌, length, reverse, slice_get}
use Rattle.std.specs.Prelude.{Option, Some, None, Ok}
use Rattle.std.specs.Option.{option_map}
use Rattle.std.specs.List.{flat_map}
use Rattle.ag_value.specs.declared.value.Value.{Value, Text}
use Rattle.ag_grammar.specs.declared.direction.Direction.TheVariants.{RightToLeft}
use Rattle.ag_grammar.specs.declared.grammar.Item.{Item}
use Rattle.ag_grammar.specs.declared.grammar.Item.TheVariants as item
use Rattle.ag_grammar.specs.declared.grammar.Production.{Production}
use Rattle.ag_grammar.specs.declared.grammar.Terminal.TheVariants.{Class}
use Rattle.ag_grammar.specs.grammars.AttributeGrammar.{Grammar, IsProduction, stored_items}
use Rattle.ag_grammar.specs.grammars.Tree.{FitsAll, Forest, IsTokenText, IsTreeOf, IsWithinLimits, Tree, deepest, node_count}
use Rattle.ag_grammar.specs.grammars.Tree.{node_counts}
use Rattle.treefile.specs.framing.ExpectedRecords.{Child, Pending, before_others, children_with_copies}
use Rattle.treefile.specs.framing.Backward.{ReadsTo, before_frame, next_before}
use Rattle.treefile.specs.devices.Device.{WhenHonest}
use Rattle.treefile.specs.records.FirstFile.{HasNoFirstTree, HasNoFirstTreeWithin, IsFirstFile, first_bodies, first_bodies_all}
use Rattle.treefile.specs.records.FirstFile.{leaf_texts, no_passes}
use Rattle.treefile.specs.records.Orders.{postfix, postfix_all, prefix_all}
use Rattle.treefile.specs.records.TreeFile.{body_of, file, frame, version_one, version_two}
use Rattle.treefile.specs.framing.Writing as writing
use Rattle.treefile.specs.declared.body.Kind.{Kind}
use Rattle.treefile.specs.declared.body.Kind.TheVariants.{Node, Token}
use Rattle.backreader.specs.BackState.{IsOver, BackState, Progress}
use Rattle.backreader.specs.turning.Turning.{max_reversed_levels, max_reversed_records}
use Rattle.passrun.specs.Damage.{ArrivesAt, ExceedsDepth, ExceedsNodes, IsReadable, ShowsAt, Source}
use Rattle.tree_upgrade.specs.declared.upgrading.old_record.OldRecord.{OldRecord}
use Rattle.tree_upgrade.specs.declared.upgrading.old_record.OldRecord.TheVariants as old
use Rattle.pass_rows.specs.declared.run_fault.RunFault.{RunFault}
use Rattle.pass_rows.specs.declared.run_fault.RunFault.TheVariants as fault

-- How an old file is read: as the file of version 1 and pass 0 of a tree within the limits.
abbrev pub old_file : Grammar → Source
old_file g =
    record {
      version = version_one;
      grammar = g;
      passes = no_passes;
      pass = 0;
      depth = max_reversed_levels;
      nodes = max_reversed_records;
    }

-- The old content (`content`) is the file of version 1 and pass 0 of exactly one tree, which is within the limits and has `count`
-- nodes. The new content (`upgraded`), if its device is `honest`, is the file of version 2 and pass 0 of the same tree. The
-- intermediate content (`between`) is a file with pass number 1 that has the tree's records of version 2, with children from
-- right to left.
pub record IsUpgraded (g : Grammar) (content between : List ℕ) (honest : Bool) (upgraded : List ℕ) (count : ℕ) : Type 0 where
  pub tree : Tree
  pub fits : IsTreeOf g tree
  pub within : IsWithinLimits max_reversed_levels max_reversed_records tree
  pub from : IsFirstFile version_one g tree content
  pub only : (another : Tree) → IsTreeOf g another → IsFirstFile version_one g another content → another ≡ tree
  pub halfway : between ≡ file version_two 1 (postfix RightToLeft (first_bodies version_two tree))
  pub to : WhenHonest honest (IsFirstFile version_two g tree upgraded)
  pub nodes : count ≡ node_count tree

-- R1: the content is the file of version 1 and pass 0 of no tree, and the damage shows at the offset. P2: it
-- is the file of no tree within the limit of levels, with any number of nodes, and reading exceeds that limit
-- before it meets any damage. P3: the same for the limit of nodes, with any number of levels. D1 and
-- NoMemory say nothing about the content.
abbrev pub IsUpgradeFault : Grammar → List ℕ → RunFault → Type 0
IsUpgradeFault g content (fault.Damaged at) = HasNoFirstTree version_one g content × ShowsAt (old_file g) content at
IsUpgradeFault g content fault.TooDeep =
    ((nodes : ℕ) → HasNoFirstTreeWithin max_reversed_levels nodes version_one g content) × ExceedsDepth (old_file g) content
IsUpgradeFault g content fault.TooManyNodes =
    ((levels : ℕ) → HasNoFirstTreeWithin levels max_reversed_records version_one g content) × ExceedsNodes (old_file g) content
IsUpgradeFault g content fault.Device = Unit {0}
IsUpgradeFault g content fault.NoMemory = Unit {0}

-- A record of version 1 and pass 0 is one of an item: a node of its symbol, or a token of its class.
abbrev pub IsOf : Grammar → Item → OldRecord → Type 0
IsOf g (item.Symbol s) (old.Node p) = (q : Production) × IsProduction g p q × (q.left ≡ s)
IsOf g (item.Terminal (Class c)) (old.Token d v) = (d ≡ c) × ((text : List ℕ) × IsTokenText text × (v ≡ Text text))
IsOf g x r = ⊥

-- The body of a record of version 1 and pass 0.
abbrev pub body_in : OldRecord → List ℕ
body_in (old.Node p) = body_of Node p []
body_in (old.Token d v) = body_of Token d (v ∷ [])

-- The children of a right side. In version 1 their parent's record has no copies of their values.
abbrev pub upcoming : Grammar → List Item → List Child
upcoming g xs = children_with_copies false g no_passes 0 (stored_items xs) []

-- The pending list that begins with the children of a right side (the symbols and classes among the items xs), from right to
-- left, each with the level `level`, and ends with the list `others`.
abbrev pub pending_items : Grammar → ℕ → List Item → Pending → Pending
pending_items g level xs others = before_others RightToLeft level (upcoming g xs) others

-- The progress of a reader in an old file: each body that it returned, from the end of the file on, is a record of
-- the child that was to be read there, and the children `todo` are still to be read.
pub record IsAt (g : Grammar) (content : List ℕ) (progress : Progress) (todo : Pending) : Type 0 where
  pub readable : IsReadable (old_file g) content
  pub arrival : ArrivesAt (old_file g) content progress.at todo
  pub counted : progress.records ≡ length arrival.bodies

-- The fault f is true of the content if the reader, before it failed, expected the children among the items xs at the level
-- `level`, and after them any list of others (`IsAt`).
abbrev pub IsUnconverted : Grammar → List ℕ → List Item → (level : ℕ) → Progress → RunFault → Type 0
IsUnconverted g content xs level progress f = (others : Pending) → IsAt g content progress (pending_items g level xs others)
    → IsUpgradeFault g content f

-- The conversion can continue: the reader (in `state`) is one of an old file with this content, and neither the reader nor the
-- writer (`out`) has failed. No more records were written than read, and no more were read than the limit.
pub record IsUpgrading (honest : Bool) (content : List ℕ) (state : BackState) (out : writing.Progress) : Type 0 where
  pub over : WhenHonest honest (IsOver content state)
  pub version : state.progress.version ≡ version_one
  pub unbroken : state.progress.fault ≡ None
  pub whole : out.is_broken ≡ false
  pub few : state.progress.records ≤ max_reversed_records
  pub written : out.written ≤ state.progress.records

-- A reader in the state `before` has read r, the record of the root of x's tree at the given level. It is then in the state
-- `after`.
pub record HasTaken (g : Grammar) (x : Item) (level : ℕ) (honest : Bool) (content : List ℕ) (before after : BackState)
    (r : OldRecord) : Type 0 where
  pub is : IsOf g x r
  pub found : WhenHonest honest (next_before version_one content before.progress.at ≡ Ok (Some (body_in r)))
  pub over : WhenHonest honest (IsOver content after)
  pub progress : after.progress ≡ record before.progress
      { at = before_frame before.progress.at (body_in r); records = before.progress.records + 1 }
  pub deep : level ≤ max_reversed_levels
  pub few : before.progress.records < max_reversed_records

-- The trees of the last items `xs` of a right side, whose roots are at a level, were converted from right to left: their records
-- were read, and those of version 2 were written. The trees of the items before them (`prefix`) are still to be read. The texts
-- are those of the tokens among the last items, the last one first. `before` and `after` are the reader's progress before and
-- after this; `out_old` and `out_new` are the contents of the second device, which is `honest` or not.
pub record Converted (g : Grammar) (content : List ℕ) (prefix xs : List Item) (level : ℕ) (before after : Progress)
    (honest : Bool) (out_old out_new : List ℕ) (texts : List Value) : Type 0 where
  pub trees : Forest
  pub fits : FitsAll g (stored_items xs) trees
  pub deep : deepest trees ≤ suc max_reversed_levels - level
  pub read : ReadsTo version_one content before.at (prefix_all RightToLeft (first_bodies_all version_one trees)) after.at
  pub nodes : after.records ≡ before.records + node_counts trees
  pub on : (others : Pending) → IsAt g content before (pending_items g level (prefix ++ xs) others)
      → IsAt g content after (pending_items g level prefix others)
  pub written : WhenHonest honest
      (out_new ≡ out_old ++ flat_map frame (postfix_all RightToLeft (first_bodies_all version_two trees)))
  pub texts_are : texts ≡ reverse (leaf_texts trees)

-- The list with the text of a token; the empty list for a node and a literal (None).
abbrev pub text_list : Option Value → List Value
text_list None = []
text_list (Some v) = v ∷ []

-- The old content (`content`) is the file of version 1 and pass 0 of a tree within the limits. The other content (`mid`), if its
-- device is `honest`, is a file with pass number 1 that has the tree's records of version 2, with children from right to left.
pub record IsConverted (g : Grammar) (content : List ℕ) (honest : Bool) (mid : List ℕ) : Type 0 where
  pub tree : Tree
  pub fits : IsTreeOf g tree
  pub within : IsWithinLimits max_reversed_levels max_reversed_records tree
  pub from : IsFirstFile version_one g tree content
  pub to : WhenHonest honest (mid ≡ file version_two 1 (postfix RightToLeft (first_bodies version_two tree)))

-- The number of children of a production's node, which is the number of items that are children; 0 for a
-- token. None if no production has the number.
abbrev pub stored_count : Grammar → Kind → ℕ → Option ℕ
stored_count g Node p = option_map (λ (q : Production). length (stored_items q.items)) (slice_get g.productions p)
stored_count g Token d = Some 0
