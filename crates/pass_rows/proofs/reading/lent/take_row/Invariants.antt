use Rattle.pass_rows.proofs.Common.{◌-◌, List, [], drop, Value, AreTaken, PrependsTo}
use Rattle.pass_rows.proofs.reading.lent.take_row.Given as goal

abbrev pub invariant-loop-pass : goal.invariant-loop-pass
invariant-loop-pass l = record {
  taken : (new : List Value) → AreTaken (l.k - 1) l.k (drop l.pass-index l.passes) l.rest [] l.values.items new
      → AreTaken (l.k - 1) l.k l.passes l.fn.body [] l.fn.values.items new;
  prefix : PrependsTo l.fn.values.items l.values.items;
}
