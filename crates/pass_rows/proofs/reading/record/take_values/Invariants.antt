use Rattle.pass_rows.proofs.Common.{◌-◌, List, [], drop, Value, AreTaken, IsNoRow, PrependsTo}
use Rattle.pass_rows.proofs.reading.record.take_values.Given as goal

abbrev pub invariant-loop-pass : goal.invariant-loop-pass
invariant-loop-pass l = record {
  taken : (new : List Value) → AreTaken (l.row.pass - 1) l.row.pass (drop l.pass-index l.passes) l.rest [] l.values.items new
      → AreTaken (l.row.pass - 1) l.row.pass l.passes l.bytes [] l.fn.values.items new;
  none : IsNoRow (l.row.pass - 1) (drop l.pass-index l.passes) l.rest → IsNoRow (l.row.pass - 1) l.passes l.bytes;
  prefix : PrependsTo l.fn.values.items l.values.items;
}
