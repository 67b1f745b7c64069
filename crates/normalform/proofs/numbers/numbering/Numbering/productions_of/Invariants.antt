-- The invariant of the loop of `Numbering::productions_of`.
use Rattle.normalform.proofs.Common.{◌≡◌, map, All, production_of, AreListedIn}
use Rattle.normalform.proofs.numbers.numbering.Numbering.productions_of.Given as goal

abbrev pub invariant-loop-production : goal.invariant-loop-production
invariant-loop-production l = record {
  numbered : l.numbered.items ≡ map (production_of l.self.declared l.self.literals) l.yielded;
  listed : All AreListedIn l.numbered.items;
}
