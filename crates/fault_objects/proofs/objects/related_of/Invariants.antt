use Rattle.std.proofs.Common.{◌≡◌, ◌++◌, drop, map}
use Rattle.fault_objects.specs.Objects.{related_data}
use Rattle.serde_json.specs.View.{view}
use Rattle.fault_objects.proofs.objects.related_of.Given as goal

abbrev pub invariant-loop-place : goal.invariant-loop-place
invariant-loop-place l = map view l.values.items ++ map related_data (drop l.place-index l.related) ≡ map related_data l.related
