use Rattle.passrun.proofs.Common.{◌≡◌, ◌≤◌, LeavesContent, Persists, setting, AddsFrames, Runs, between}
use Rattle.passrun.specs.passing.Working.{measure}
use Rattle.passrun.proofs.passing.run.run.Given as goal

abbrev pub invariant-loop-next : goal.invariant-loop-next
invariant-loop-next g l =
    record {
      runs : Runs (setting l.context)
          (between (g.D.Device.is_honest l.from) (g.D.Device.content l.from) (g.E.Device.is_honest l.to)
          (g.E.Device.content l.to) l.meter) l.machine l.next;
      added : AddsFrames (g.E.Device.is_honest l.to) (g.E.Device.content l.fn.to) (g.E.Device.content l.to);
      meter : l.fn.meter ≤ l.meter;
      begun : l.machine.begun ≡ l.fn.machine.begun;
      content : LeavesContent (g.D.Device.is_honest l.from) (g.D.Device.content l.fn.from) (g.D.Device.content l.from);
      from_persists : Persists (g.D.Device.is_honest l.fn.from) (g.D.Device.is_honest l.from) (g.D.Device.failures l.fn.from)
          (g.D.Device.failures l.from) ⊥;
      to_persists : Persists (g.E.Device.is_honest l.fn.to) (g.E.Device.is_honest l.to) (g.E.Device.failures l.fn.to)
          (g.E.Device.failures l.to) ⊥;
    }

abbrev pub decreases-loop-next : goal.decreases-loop-next
decreases-loop-next g l = measure (setting l.context) l.machine l.next
