use Rattle.std.proofs.Common.{◌≡◌, ◌+◌, ◌++◌, drop, string_bytes}
use Rattle.std.specs.List.{enumerate_from, flat_map}
use Rattle.passcode.specs.Rows.{row_of}
use Rattle.agoutput.specs.Listings.{code_line}
use Rattle.agoutput.proofs.code_listing.show_production.Given as goal

abbrev pub invariant-loop-before : goal.invariant-loop-before
invariant-loop-before l =
    let line = code_line l.numbered.grammar.now l.numbered.number l.numbered.production.now in
    string_bytes l.out ++ flat_map line (enumerate_from (l.before + 1) (row_of (drop l.before l.lists)))
    ≡ string_bytes l.initial.out ++ flat_map line (enumerate_from 1 (row_of l.lists))
