-- The invariant of the loop of `Numbering::rules_of`.
use Rattle.normalform.proofs.Common.{◌≡◌, map, All, rule_of, item_placed, IsListed}
use Rattle.normalform.proofs.numbers.numbering.Numbering.rules_of.Given as goal

abbrev pub invariant-loop-rule : goal.invariant-loop-rule
invariant-loop-rule l = record {
  numbered : l.numbered.items ≡ map (rule_of l.self.declared (map item_placed l.items)) l.yielded;
  listed : All IsListed l.numbered.items;
}
