use Rattle.passassign.proofs.Common.{◌≡◌, ◌++◌, drop, dependencies_of_production, dependencies_of_rule}
use Rattle.std.specs.List.{enumerate_from, flat_map}
use Rattle.passassign.proofs.dependency.append_production.Given as goal

abbrev pub invariant-loop-index : goal.invariant-loop-index
invariant-loop-index l =
    l.found.items ++ flat_map (dependencies_of_rule l.number l.production) (enumerate_from l.index (drop l.index l.rules))
    ≡ l.initial.found.items ++ dependencies_of_production (l.number, l.production)
