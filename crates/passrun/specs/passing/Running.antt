-- A running pass, in terms of the code's types. All definitions are this project's.
use Rattle.std.specs.Prelude.{ℕ, ◌≡◌, ◌-◌, ◌^◌, ◌≤◌, ◌⊎◌, Bool, false, List, [], ◌∷◌, ◌++◌, Option, Some, None}
use Rattle.std.specs.Prelude.{All, length, reverse, slice_get}
use Rattle.std.specs.List.{flat_map}
use Rattle.ag_value.specs.Well.{IsWell}
use Rattle.ag_grammar.specs.grammars.Tree.{max_nodes}
use Rattle.treefile.specs.devices.Device.{WhenHonest}
use Rattle.treefile.specs.framing.Backward.{ReadsTo}
use Rattle.treefile.specs.framing.ExpectedRecords.{Pending}
use Rattle.treefile.specs.records.TreeFile.{frame, header, version_two}
use Rattle.backreader.specs.BackState.{IsOver}
use Rattle.passcode.specs.declared.instr.Instr.{Instr}
use Rattle.passcode.specs.declared.instr.Instr.TheVariants as instr
use Rattle.passcode.specs.Settings.{Setting, list_at}
use Rattle.pass_rows.specs.declared.open_node.OpenNode.{OpenNode}
use Rattle.passrun.specs.Damage.{AreRecords, IsReadable, source}
use Rattle.passrun.specs.declared.passing.machine.Machine.{Machine}
use Rattle.passrun.specs.passing.RunInvariant.{RunInvariant, Transcript}

-- The open nodes, the innermost first: the one that continues, and those that wait.
abbrev pub stack_of : Option OpenNode → List OpenNode → List OpenNode
stack_of None waiting = []
stack_of (Some node) waiting = node ∷ reverse waiting

-- A device, as a pass sees it.
pub record DeviceState : Type 0 where
  pub honest : Bool
  pub content : List ℕ

-- What a pass uses besides its machine: the first device, from which it reads, the second one, to which it writes, and the count
-- of the meter.
pub record World : Type 0 where
  pub first : DeviceState
  pub second : DeviceState
  pub meter : ℕ

-- A world with this first device, and with the rest as given: the second device and the count of the meter.
abbrev pub with_first_device : (honest : Bool) (content : List ℕ) → DeviceState × ℕ → World
with_first_device honest content (second, meter) =
    record { first = record { honest = honest; content = content }; second = second; meter = meter }

-- A world with this second device, and with the rest as given: the first device and the count of the meter.
abbrev pub with_second_device : (honest : Bool) (content : List ℕ) → DeviceState × ℕ → World
with_second_device honest content (first, meter) =
    record { first = first; second = record { honest = honest; content = content }; meter = meter }

-- A world with this count of the meter, and with the two devices as given.
abbrev pub with_meter : ℕ → DeviceState × DeviceState → World
with_meter meter (first, second) = record { first = first; second = second; meter = meter }

-- The world with these two devices and this count of the meter.
abbrev pub between : (honest : Bool) (content : List ℕ) (to_honest : Bool) (to : List ℕ) (meter : ℕ) → World
between honest content to_honest to meter = with_first_device honest content (record { honest = to_honest; content = to }, meter)

-- A world of which no part is known.
abbrev pub unknown_world : World → World
unknown_world w = w

-- The invariant of a pass: the machine m runs the pass of the setting c in the world w. The node `next` continues (none if the
-- root is done). The transcript has the bodies read and written, and agrees with the machine's reader and writer. Each body that
-- was read is a record of the node that was expected next. The open nodes still have the children `todo` to read. When the pass
-- began, the meter's count was at most 2^63, so that it can't overflow.
pub record Runs (c : Setting) (w : World) (m : Machine) (next : Option OpenNode) : Type 0 where
  pub transcript : Transcript
  pub todo : Pending
  pub invariant : RunInvariant c m.waiting.root (stack_of next m.waiting.nodes) m.values.items transcript (w.meter - m.begun) todo
  pub over : WhenHonest w.first.honest (IsOver w.first.content m.back)
  pub read : WhenHonest w.first.honest
      (ReadsTo version_two w.first.content (length w.first.content) transcript.read m.back.progress.at)
  pub records : m.back.progress.records ≡ length transcript.read
  pub few : length transcript.read ≤ max_nodes
  pub put : WhenHonest w.second.honest (w.second.content ≡ header version_two c.write ++ flat_map frame transcript.put)
  pub written : m.writer.written ≡ length transcript.put
  pub version : m.back.progress.version ≡ version_two
  pub unbroken : m.back.progress.fault ≡ None
  pub whole : m.writer.is_broken ≡ false
  pub well : All IsWell m.values.items
  pub readable : WhenHonest w.first.honest (IsReadable (source c) w.first.content)
  pub ahead : AreRecords (source c) transcript.read todo
  pub begun : m.begun ≤ w.meter
  pub low : m.begun ≤ 2 ^ 63

-- The machine runs in some of the worlds `parts rest`. A function's contract knows those parts of the world that the function
-- uses: `parts` sets them (as `with_first_device` does), and the rest may be anything.
abbrev pub RunsWith : {Rest : Type 0} → Setting → (parts : Rest → World) → Machine → Option OpenNode → Type 0
RunsWith {Rest} c parts m next = (rest : Rest) × Runs c (parts rest) m next

-- A step leads from one running machine to the next, whatever the rest of the world is. `before` and `after` set the parts that
-- the step uses, and the step leaves the rest alone. `old` and `node` are what it begins with, `new` and `next` what it leads to.
abbrev pub Preserves : {Rest : Type 0} → Setting → (before after : Rest → World) → (old new : Machine)
    → (node next : Option OpenNode) → Type 0
Preserves {Rest} c before after old new node next = (rest : Rest) → Runs c (before rest) old node → Runs c (after rest) new next

-- The next instruction runs the rule with number r: `Set`, or `Def` for a target at the node itself. The target is attribute a at
-- place j.
abbrev pub RunsRuleNext : Setting → OpenNode → ℕ → Type 0
RunsRuleNext c x r =
    (j a : ℕ) × (z : Instr) × ((z ≡ instr.Set j a r) ⊎ ((z ≡ instr.Def a r) × (j ≡ 0)))
    × (slice_get (list_at c x.production) x.at ≡ Some z)
