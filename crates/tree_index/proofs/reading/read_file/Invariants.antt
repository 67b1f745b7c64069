use Rattle.std.proofs.Common.{◌≡◌, reverse}
use Rattle.treefile.specs.devices.Device.{LeavesContent, Persists, WhenHonest}
use Rattle.tree_index.specs.Reading.{HasComeTo}
use Rattle.tree_index.specs.Ready.{IsReady}
use Rattle.tree_index.proofs.reading.read_file.Given as goal

abbrev pub invariant-loop-turn : goal.invariant-loop-turn
invariant-loop-turn g l = record {
  ready : IsReady (g.D.Device.is_honest l.device) (g.D.Device.content l.fn.device) l.reading.back;
  come : WhenHonest (g.D.Device.is_honest l.device)
      (HasComeTo l.mode.format.grammar.now (g.D.Device.content l.fn.device) l.reading.back
      (reverse l.reading.nodes.items) l.reading.index);
  pass : l.reading.index.pass ≡ l.mode.format.pass;
  content : LeavesContent (g.D.Device.is_honest l.device) (g.D.Device.content l.fn.device) (g.D.Device.content l.device);
  persists : Persists (g.D.Device.is_honest l.fn.device) (g.D.Device.is_honest l.device) (g.D.Device.failures l.fn.device)
      (g.D.Device.failures l.device) ⊥;
}
