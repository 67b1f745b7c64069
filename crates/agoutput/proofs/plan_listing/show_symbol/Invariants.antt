use Rattle.std.proofs.Common.{◌≡◌, ◌++◌, string_bytes}
use Rattle.std.specs.List.{flat_map}
use Rattle.agoutput.specs.Listings.{attribute_text}
use Rattle.agoutput.proofs.plan_listing.show_symbol.Given as goal

abbrev pub invariant-loop-name : goal.invariant-loop-name
invariant-loop-name l =
    string_bytes l.out ≡ string_bytes l.initial.out ++ flat_map
    (λ p. attribute_text l.pass l.symbol.name (p.0.now, p.1.now)) l.yielded
