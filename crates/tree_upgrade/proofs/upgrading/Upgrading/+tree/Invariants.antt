use Rattle.std.proofs.Common.{◌≡◌, true, ◌+◌, ◌-◌, ◌≤◌, suc, All, drop, take, length}
use Rattle.ag_value.specs.Well.{IsWell}
use Rattle.passrun.specs.passing.Putting.{AddsFrames}
use Rattle.tree_upgrade.specs.upgrading.Upgrading.{Converted, IsUpgrading}
use Rattle.treefile.specs.devices.Device.{LeavesContent, Persists, WhenHonest}
use Rattle.tree_upgrade.proofs.upgrading.Upgrading.+tree.Given as goal

abbrev pub decreases-tree : goal.decreases-tree
decreases-tree g l = 257 - l.subtree.level

-- After the record of the node was read, the trees of its last items were converted, and one record was written for each record
-- that was read since.
abbrev pub invariant-loop-at : goal.invariant-loop-at
invariant-loop-at g l =
    record {
      content : LeavesContent (g.D.Device.is_honest l.from) (g.D.Device.content l.fn.from) (g.D.Device.content l.from);
      from_persists : Persists (g.D.Device.is_honest l.fn.from) (g.D.Device.is_honest l.from) (g.D.Device.failures l.fn.from)
          (g.D.Device.failures l.from) ⊥;
      to_persists : Persists (g.E.Device.is_honest l.fn.to) (g.E.Device.is_honest l.to) (g.E.Device.failures l.fn.to)
          (g.E.Device.failures l.to) ⊥;
      since : WhenHonest (g.D.Device.is_honest l.from) (g.D.Device.is_honest l.initial.from ≡ true);
      ready : IsUpgrading (g.D.Device.is_honest l.from) (g.D.Device.content l.fn.from) l.self.back l.self.writer;
      added : AddsFrames (g.E.Device.is_honest l.to) (g.E.Device.content l.fn.to) (g.E.Device.content l.to);
      balanced : l.self.writer.written + l.fn.self.back.progress.records + 1 ≡ l.fn.self.writer.written
          + l.self.back.progress.records;
      well : All IsWell l.texts.items;
      few : length l.texts.items + l.at ≤ length l.items;
      converted : WhenHonest (g.D.Device.is_honest l.from)
          (Converted l.grammar (g.D.Device.content l.fn.from) (take l.at l.items) (drop l.at l.items)
          (suc l.level) l.initial.self.back.progress l.self.back.progress (g.E.Device.is_honest l.to)
          (g.E.Device.content l.fn.to) (g.E.Device.content l.to) l.texts.items);
    }
