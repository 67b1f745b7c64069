use Rattle.ag_expr.proofs.Common.{◌≡◌, None, bytes_eq, drop, last_from}
use Rattle.ag_expr.proofs.names.last_position.Given as goal

abbrev pub invariant-loop-at : goal.invariant-loop-at
invariant-loop-at l =
    last_from (λ y. bytes_eq y.now l.name) l.at l.found (drop l.at l.names) ≡ last_from
    (λ y. bytes_eq y.now l.fn.name) 0 None l.fn.names
