use Rattle.llparse.proofs.Common.{ℕ, ◌≡◌, ◌<◌, ◌↔◌, length, true, Production, IsProduction, Predicts, is_marked}
use Rattle.llparse.proofs.table.predict.Sets.predicted.Given as goal

abbrev pub invariant-loop-at : goal.invariant-loop-at
invariant-loop-at l = record {
  count : length l.marks.items ≡ l.at;
  exact : (p : ℕ) (q : Production) → p < l.at → IsProduction l.grammar p q
      → is_marked l.marks.items p ≡ true ↔ Predicts l.grammar q l.fn.ahead;
}
