use Rattle.treefile.specs.devices.Device.{LeavesContent, Persists}
use Rattle.value_reasons.proofs.errors.write_errors.Given as goal

-- the calls so far have left the content of an honest device unchanged, and `Persists` holds of all of them together
abbrev pub invariant-loop-node : goal.invariant-loop-node
invariant-loop-node g l = record {
  content : LeavesContent (g.D.Device.is_honest l.device) (g.D.Device.content l.fn.device) (g.D.Device.content l.device);
  persists : Persists (g.D.Device.is_honest l.fn.device) (g.D.Device.is_honest l.device) (g.D.Device.failures l.fn.device)
      (g.D.Device.failures l.device) ⊥;
}
