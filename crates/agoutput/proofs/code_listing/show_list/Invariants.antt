use Rattle.std.proofs.Common.{◌≡◌, ◌++◌, drop, map, string_bytes}
use Rattle.ag_value.specs.Shown.{following}
use Rattle.agoutput.specs.Listings.{instruction_text}
use Rattle.agoutput.proofs.code_listing.show_list.Given as goal

abbrev pub invariant-loop-instruction : goal.invariant-loop-instruction
invariant-loop-instruction l =
    string_bytes l.out ++ following (map (instruction_text l.grammar l.production) (drop l.instruction-index l.rest))
    ≡ string_bytes l.initial.out ++ following (map (instruction_text l.grammar l.production) l.rest)
