-- N1, then N2, then N3.
use Rattle.normalform.proofs.Common.{map, ◌++◌, symbol_of, unknown_checks, doubled_checks, start_checks, resolved_productions}
use Rattle.normalform.proofs.Listing.{two_parts, says_later}
use Rattle.normalform.proofs.checking.push_naming.Goals as goal

pub returns-clause-faults : goal.returns-clause-faults
returns-clause-faults c =
    let raw = c.args.raw.now in
    let ss = map symbol_of raw.symbols in
    let unknown = unknown_checks ss (resolved_productions raw) in
    let doubled = doubled_checks raw.symbols in
    two_parts (unknown ++ doubled) (start_checks ss raw.start) _ _ _
    (two_parts unknown doubled _ _ _ (rw (c.requires.declared, c.requires.productions) at c.in_ok-push_unknown.ensures)
    (rw c.as_slice.ensures at c.in_ok-distinct.ensures.faults))
    (rw c.requires.declared at c.in_ok-push_bad_start.ensures)

pub returns-clause-distinct : goal.returns-clause-distinct
returns-clause-distinct c =
    let raw = c.args.raw.now in
    says_later _ _ (doubled_checks raw.symbols) (start_checks c.args.declared.now raw.start) _ c.in_ok-push_bad_start.ensures
    (rw c.as_slice.ensures at c.in_ok-distinct.ensures.distinct)
