-- The invariant of the loop of `push_doubled_names`.
use Rattle.normalform.proofs.Common.{◌≡◌, drop, fold, doubled_names, with_name}
use Rattle.normalform.specs.faults.FaultList.{after_checks}
use Rattle.normalform.proofs.faults.naming.push_doubled_names.Given as goal

abbrev pub invariant-loop-name : goal.invariant-loop-name
invariant-loop-name l = record {
  faults : after_checks l.faults (doubled_names l.seen (drop l.name-index l.names)) ≡ after_checks l.initial.faults
      (doubled_names l.initial.seen l.names);
  seen : fold with_name l.seen (drop l.name-index l.names) ≡ fold with_name l.initial.seen l.names;
}
