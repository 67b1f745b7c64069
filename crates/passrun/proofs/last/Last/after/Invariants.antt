use Rattle.passrun.proofs.Common.{◌≡◌, ◌-◌, ◌≤◌, ℕ}
use Rattle.passrun.specs.Rounds.{last_after}
use Rattle.passrun.proofs.last.Last.after.Given as goal

abbrev pub invariant-loop-done : goal.invariant-loop-done
invariant-loop-done l = record {
  high : l.done ≤ l.passes;
  is : l.last ≡ last_after l.done;
}

abbrev pub decreases-loop-done : goal.decreases-loop-done
decreases-loop-done l = l.passes - l.done
