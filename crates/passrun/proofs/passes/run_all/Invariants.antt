use Rattle.passrun.proofs.Common.{◌≡◌, ◌+◌, ◌-◌, ◌*◌, ◌≤◌, max_nodes, passes_of, Persists, WhenHonest}
use Rattle.passrun.specs.Rounds.{HasRunAll, LeavesSomeFile, last_after}
use Rattle.passrun.proofs.passes.run_all.Given as goal

abbrev pub invariant-loop-done : goal.invariant-loop-done
invariant-loop-done g l = record {
  low : l.first - 1 ≤ l.done;
  high : l.done ≤ l.passes;
  a_persists : Persists (g.D.Device.is_honest l.fn.a) (g.D.Device.is_honest l.a) (g.D.Device.failures l.fn.a)
      (g.D.Device.failures l.a) ⊥;
  b_persists : Persists (g.D.Device.is_honest l.fn.b) (g.D.Device.is_honest l.b) (g.D.Device.failures l.fn.b)
      (g.D.Device.failures l.b) ⊥;
  meter_low : l.fn.meter ≤ l.meter;
  meter_high : l.meter ≤ l.fn.meter + l.done * 68719476736;
  nodes : l.sum.nodes ≤ max_nodes;
  read : l.sum.read ≤ l.done * 1048576;
  written : l.sum.written ≤ l.done * 1048576;
  a_left : WhenHonest (g.D.Device.is_honest l.a) (LeavesSomeFile (g.D.Device.content l.fn.a) (g.D.Device.content l.a));
  b_left : WhenHonest (g.D.Device.is_honest l.b) (LeavesSomeFile (g.D.Device.content l.fn.b) (g.D.Device.content l.b));
  which : l.last ≡ last_after (l.done - (l.first - 1));
  far : l.done ≡ l.first - 1 → g.D.Device.content l.b ≡ g.D.Device.content l.fn.b;
  runs : WhenHonest (g.D.Device.is_honest l.a)
      (WhenHonest (g.D.Device.is_honest l.b)
      (HasRunAll l.grammar (passes_of l.plan.assignment) (l.first - 1) l.done (g.D.Device.content l.fn.a) l.last
      (g.D.Device.content l.a) (g.D.Device.content l.b) (l.meter - l.fn.meter) l.sum));
}
