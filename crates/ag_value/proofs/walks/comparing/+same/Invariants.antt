use Rattle.std.proofs.Common.{◌≡◌, take}
use Rattle.ag_value.proofs.walks.comparing.+same.Given as goal

abbrev pub invariant-same_items-loop-i : goal.invariant-same_items-loop-i
invariant-same_items-loop-i l = take l.i l.xs ≡ take l.i l.ys

abbrev pub invariant-same_pairs-loop-i : goal.invariant-same_pairs-loop-i
invariant-same_pairs-loop-i l = take l.i l.xs ≡ take l.i l.ys
