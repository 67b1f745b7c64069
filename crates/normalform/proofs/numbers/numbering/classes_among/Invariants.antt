-- The invariant of the loop of `classes_among`.
use Rattle.normalform.proofs.Common.{◌≡◌, take, filter, ℕ, is_class, list_any, RawProduction}
use Rattle.normalform.proofs.numbers.numbering.classes_among.Given as goal

abbrev pub invariant-loop-class : goal.invariant-loop-class
invariant-loop-class l =
    l.classes.items ≡ filter (λ (c : ℕ). list_any (λ (q : RawProduction). list_any (is_class c) q.items) l.productions)
    (take l.class-index l.known)
