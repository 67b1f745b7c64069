-- The invariant of the loop of `body_of`.
use Rattle.normalform.proofs.Common.{◌≡◌, ◌++◌, drop, body_of, declared_names}
use Rattle.normalform.proofs.faults.clause.body_of.Given as goal

abbrev pub invariant-loop-item : goal.invariant-loop-item
invariant-loop-item l =
    l.body.items ++ body_of (declared_names l.declared) (drop l.item-index l.items) ≡ body_of (declared_names l.declared) l.items
