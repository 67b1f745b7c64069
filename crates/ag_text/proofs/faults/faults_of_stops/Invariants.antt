use Rattle.std.proofs.Common.{◌≡◌, map, take}
use Rattle.ag_text.specs.Answers.{fault_of, line_of}
use Rattle.ag_text.proofs.faults.faults_of_stops.Given as goal

abbrev pub invariant-loop-stop : goal.invariant-loop-stop
invariant-loop-stop l = record {
  mapped : l.faults.items ≡ map (fault_of l.text) (take l.stop-index l.stops);
  line : l.line ≡ line_of l.text l.from;
}
