use Rattle.treefile.specs.devices.Device.{LeavesContent, Persists}
use Rattle.message_texts.proofs.trees.frames.expected_before.Given as goal

-- the calls so far have left the content of an honest device unchanged, and `Persists` holds of all of them together
abbrev pub invariant-loop : goal.invariant-loop
invariant-loop g l = record {
  content : LeavesContent (g.D.Device.is_honest l.tree) (g.D.Device.content l.fn.tree) (g.D.Device.content l.tree);
  persists : Persists (g.D.Device.is_honest l.fn.tree) (g.D.Device.is_honest l.tree) (g.D.Device.failures l.fn.tree)
      (g.D.Device.failures l.tree) ⊥;
}
