-- The search ends after N3, or makes all checks.
use Rattle.normalform.proofs.Common.{doubled_checks}
use Rattle.normalform.proofs.Listing.{said}
use Rattle.normalform.proofs.found.Searched.{searched_names, searched_all, names_empty, from_empty}
use Rattle.normalform.proofs.checking.push_all.Goals as goal

pub push_structure-requires-clause-names : goal.push_structure-requires-clause-names
push_structure-requires-clause-names c =
    names_empty c.args.raw.now c.args.faults.now.only_first _
    (from_empty c.args.raw.now c.args.faults.now _ c.requires.empty c.in_ok-distinct.ensures.faults)

pub push_further-requires-clause-distinct : goal.push_further-requires-clause-distinct
push_further-requires-clause-distinct c = said _ (doubled_checks c.args.raw.now.symbols) _ c.in_ok-distinct.ensures.distinct (cc)

pub returns-then-is_full : goal.returns-then-is_full
returns-then-is_full c =
    searched_names c.args.raw.now c.args.faults.now.only_first _
    (from_empty c.args.raw.now c.args.faults.now _ c.requires.empty c.in_ok-distinct.ensures.faults) (cc)

pub returns : goal.returns
returns c =
    searched_all c.args.raw.now c.args.faults.now.only_first _ _ _
    (from_empty c.args.raw.now c.args.faults.now _ c.requires.empty c.in_ok-distinct.ensures.faults)
    c.in_ok-push_structure.ensures c.in_ok-push_further.ensures
