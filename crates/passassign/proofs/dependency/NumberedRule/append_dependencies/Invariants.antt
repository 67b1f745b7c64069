use Rattle.passassign.proofs.Common.{ℕ, ◌≡◌, ◌++◌, drop, Rule, dependencies_of_rule, dependency_on}
use Rattle.std.specs.List.{enumerate_from, filter_map}
use Rattle.passassign.proofs.dependency.NumberedRule.append_dependencies.Given as goal

abbrev pub invariant-loop-index : goal.invariant-loop-index
invariant-loop-index l =
    let p : ℕ = l.self.production_number in
    let rule : ℕ × Rule = (l.self.number, l.self.rule.now) in
    l.found.items ++ filter_map (dependency_on p l.self.production.now rule) (enumerate_from l.index (drop l.index l.arguments))
    ≡ l.initial.found.items ++ dependencies_of_rule p l.self.production.now rule
