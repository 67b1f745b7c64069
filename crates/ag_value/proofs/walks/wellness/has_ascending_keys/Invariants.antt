use Rattle.std.proofs.Common.{◌≡◌, ◌∷◌, drop, map}
use Rattle.std.specs.Str.{IsUtf8}
use Rattle.ag_value.specs.Well.{are_keys, key_of}
use Rattle.ag_value.proofs.walks.wellness.has_ascending_keys.Given as goal

abbrev pub invariant-loop-pair : goal.invariant-loop-pair
invariant-loop-pair l =
    (are_keys (l.before ∷ map key_of (drop l.pair-index l.pair-items)) ≡ are_keys (map key_of l.pairs)) × IsUtf8 l.before
