use Rattle.std.proofs.Common.{◌≡◌, ◌++◌, drop, map, string_bytes}
use Rattle.ag_value.specs.Shown.{following, shown_of, shown_of_pair}
use Rattle.ag_value.proofs.spelling.showing.+showing.Given as goal

abbrev pub invariant-show_items-loop-item : goal.invariant-show_items-loop-item
invariant-show_items-loop-item l =
    string_bytes l.out ++ following (map shown_of (drop l.item-index l.rest)) ≡ string_bytes l.initial.out ++ following
    (map shown_of l.rest)

abbrev pub invariant-show_pairs-loop-pair : goal.invariant-show_pairs-loop-pair
invariant-show_pairs-loop-pair l =
    string_bytes l.out ++ following (map shown_of_pair (drop l.pair-index l.rest)) ≡ string_bytes l.initial.out ++ following
    (map shown_of_pair l.rest)
