use Rattle.ag_eval.proofs.Common.{◌≡◌, ◌++◌, drop, string_bytes, flat_map, join_by, bytes_of}
use Rattle.ag_eval.proofs.builtins.texts.joined.Given as goal

abbrev pub invariant-loop-item : goal.invariant-loop-item
invariant-loop-item l =
    string_bytes l.text ++ flat_map (λ y. l.separator ++ bytes_of y) (drop l.item-index l.rest)
    ≡ join_by bytes_of l.separator l.items
