-- Reading the record of an item from a tree file that is read from its end. In these definitions c is a setting and x an item.
-- All definitions are this project's.
use Rattle.std.specs.Prelude.{ℕ, ◌≡◌, ◌+◌, ◌<◌, ◌≤◌, Bool, List, Option, Some, None, Result, Ok, Err}
use Rattle.ag_value.specs.declared.value.Value.{Value}
use Rattle.ag_grammar.specs.declared.grammar.Item.{Item}
use Rattle.ag_grammar.specs.grammars.Tree.{max_depth, max_nodes}
use Rattle.treefile.specs.declared.reading.FrameFault.{FrameFault}
use Rattle.treefile.specs.framing.Backward.{before_frame, next_before}
use Rattle.treefile.specs.devices.Device.{WhenHonest}
use Rattle.treefile.specs.records.TreeFile.{version_two}
use Rattle.backreader.specs.BackState.{IsOver, BackState}
use Rattle.passcode.specs.Settings.{Setting}
use Rattle.pass_rows.specs.declared.run_fault.RunFault.{RunFault}
use Rattle.pass_rows.specs.declared.run_fault.RunFault.TheVariants as fault
use Rattle.pass_rows.specs.reading.Reading.{IsRead, IsNoRecord}

-- The record of an item was read below `open_count` open nodes: its frame ended where the reader was, and its row
-- was appended to the values. p is the number in the record.
pub record HasFetched (c : Setting) (x : Item) (p open_count : ℕ) (honest : Bool) (content : List ℕ) (old new : BackState)
    (old_values new_values : List Value) : Type 0 where
  pub body : List ℕ
  pub found : WhenHonest honest (next_before version_two content old.progress.at ≡ Ok (Some body))
  pub taken : IsRead c x p body old_values new_values
  pub over : WhenHonest honest (IsOver content new)
  pub progress : new.progress ≡ record old.progress { at = before_frame old.progress.at body; records = old.progress.records + 1 }
  pub deep : open_count < max_depth
  pub few : old.progress.records < max_nodes

-- Reading the frame that ends at an offset gave no record of an item: it gave a fault, no frame, or a body that is not a record
-- of the item.
abbrev pub IsMissing : Setting → Item → Result (Option (List ℕ)) FrameFault → Type 0
IsMissing c x (Err frame_fault) = Unit {0}
IsMissing c x (Ok None) = Unit {0}
IsMissing c x (Ok (Some body)) = IsNoRecord c x body

-- The reason why no record of an item was read. R1: at the offset that the reader has reached no frame ends, or one whose body is
-- not a record of the item, and no limit is exceeded. P2: it would be too deep. P3: it would be one too many, and not too deep.
abbrev pub IsUnfetched : Setting → Item → ℕ → List ℕ → BackState → RunFault → Type 0
IsUnfetched c x open_count content old (fault.Damaged at) =
    (at ≡ old.progress.at) × IsMissing c x (next_before version_two content old.progress.at) × (open_count < max_depth)
    × (old.progress.records < max_nodes)
IsUnfetched c x open_count content old fault.TooDeep = max_depth ≤ open_count
IsUnfetched c x open_count content old fault.TooManyNodes = (max_nodes ≤ old.progress.records) × (open_count < max_depth)
IsUnfetched c x open_count content old fault.Device = Unit {0}
IsUnfetched c x open_count content old fault.NoMemory = Unit {0}
