use Rattle.std.proofs.Common.{◌≡◌, ◌++◌, string_bytes}
use Rattle.std.specs.List.{flat_map}
use Rattle.agoutput.specs.Listings.{symbol_text}
use Rattle.agoutput.proofs.plan_listing.show_symbols.Given as goal

abbrev pub invariant-loop-symbol : goal.invariant-loop-symbol
invariant-loop-symbol l =
    string_bytes l.out ≡ string_bytes l.initial.out ++ flat_map (λ p. symbol_text l.pass (p.0.now, p.1.now.items)) l.yielded
