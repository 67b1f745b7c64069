use Rattle.passassign.proofs.Common.{◌≡◌, ◌++◌, drop, dependencies_of, dependencies_of_production}
use Rattle.std.specs.List.{enumerate_from, flat_map}
use Rattle.passassign.proofs.dependency.all_dependencies.Given as goal

abbrev pub invariant-loop-index : goal.invariant-loop-index
invariant-loop-index l =
    l.found.items ++ flat_map dependencies_of_production (enumerate_from l.index (drop l.index l.productions))
    ≡ dependencies_of l.productions
