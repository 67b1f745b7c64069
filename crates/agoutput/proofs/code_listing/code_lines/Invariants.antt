use Rattle.std.proofs.Common.{◌≡◌, string_bytes}
use Rattle.std.specs.List.{flat_map}
use Rattle.passcode.specs.Rows.{row_of}
use Rattle.agoutput.specs.Listings.{production_text}
use Rattle.agoutput.proofs.code_listing.code_lines.Given as goal

abbrev pub invariant-loop-number : goal.invariant-loop-number
invariant-loop-number l =
    string_bytes l.out ≡ flat_map (λ p. production_text l.grammar ((p.0.0, p.0.1.now), row_of p.1.now.items)) l.yielded
