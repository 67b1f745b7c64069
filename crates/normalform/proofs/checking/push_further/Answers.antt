-- N6, then N7 to N9, then N10.
use Rattle.normalform.proofs.Common.{map, symbol_of, missing_checks, doubled_checks, later_kinds, limit_checks, ◌++◌}
use Rattle.normalform.proofs.Common.{resolved_productions}
use Rattle.normalform.specs.faults.AllFaults.{if_none}
use Rattle.normalform.specs.faults.FaultList.{wrong}
use Rattle.normalform.proofs.Listing.{two_parts}
use Rattle.normalform.proofs.checking.push_further.Goals as goal

pub returns : goal.returns
returns c =
    let raw = c.args.raw.now in
    let missing = missing_checks (map symbol_of raw.symbols) (resolved_productions raw) in
    let later = later_kinds (resolved_productions raw) in
    two_parts (if_none (wrong (doubled_checks raw.symbols)) missing) (later ++ limit_checks raw) _ _ _
    (rw (c.requires.declared, c.requires.productions, c.requires.distinct) at c.in_ok-push_missing_if.ensures)
    (two_parts later (limit_checks raw) _ _ _ (rw c.requires.productions at c.in_ok-push_later_kinds.ensures)
    c.in_ok-push_limits.ensures)
