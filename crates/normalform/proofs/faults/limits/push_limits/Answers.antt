-- The limits of symbols, of productions and of literals.
use Rattle.normalform.proofs.Common.{◌++◌, map, symbol_of, literals_of, symbol_limits, production_limits, literal_limits}
use Rattle.normalform.proofs.Common.{resolved_productions}
use Rattle.normalform.proofs.Listing.{two_parts}
use Rattle.normalform.proofs.faults.limits.push_limits.Goals as goal

pub returns : goal.returns
returns c =
    let raw = c.args.raw.now in
    let symbols = symbol_limits (map symbol_of raw.symbols) in
    let productions = production_limits raw.productions (resolved_productions raw) in
    two_parts (symbols ++ productions) (literal_limits (literals_of raw.productions)) _ _ _
    (two_parts symbols productions _ _ _ (rw c.as_slice.ensures at c.in_ok-push_symbol_limits.ensures)
    (rw (c.as_slice-productions.ensures, c.requires) at c.in_ok-push_production_limits.ensures))
    (rw (c.in_ok-literals.ensures, c.as_slice-productions.ensures) at c.in_ok-push_literal_limits.ensures)
