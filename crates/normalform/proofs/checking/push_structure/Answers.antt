-- Only a grammar without a wrong name is checked.
use Rattle.normalform.proofs.found.Searched.{unmarked, none_if_empty}
use Rattle.normalform.proofs.checking.push_structure.Goals as goal

pub returns-then-not-is_empty : goal.returns-then-not-is_empty
returns-then-not-is_empty c = unmarked c.args.raw.now c.args.faults.now (cc)

pub push_marked-requires-clause-names : goal.push_marked-requires-clause-names
push_marked-requires-clause-names c = none_if_empty _ (cc)
