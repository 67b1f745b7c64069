use Rattle.std.proofs.Common.{◌≡◌, ◌++◌, map, drop}
use Rattle.shared_bytes.specs.Spliced.{shift}
use Rattle.shared_bytes.proofs.shared_bytes.shifted.Given as goal

abbrev pub invariant-loop-splice : goal.invariant-loop-splice
invariant-loop-splice l =
    l.moved.items ++ map (shift l.own l.at) (drop l.splice-index l.splices) ≡ map (shift l.own l.at) l.splices
