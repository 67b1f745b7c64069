use Rattle.pass_rows.proofs.Common.{◌-◌, List, [], drop, length, ◌+◌, ◌≤◌, Value, AreTaken, IsNoRow, PrependsTo}
use Rattle.std.proofs.Common.{vec_capacity, vec_len}
use Rattle.pass_rows.proofs.reading.record.take_row.Given as goal

abbrev pub invariant-loop-index : goal.invariant-loop-index
invariant-loop-index l = record {
  taken : (new : List Value) → AreTaken (l.row.pass - 1) l.row.pass (drop l.index l.passes) l.rest [] l.values.items new
      → AreTaken (l.row.pass - 1) l.row.pass l.passes l.bytes [] l.fn.values.items new;
  none : IsNoRow (l.row.pass - 1) (drop l.index l.passes) l.rest → IsNoRow (l.row.pass - 1) l.passes l.bytes;
  prefix : PrependsTo l.fn.values.items l.values.items;
  room : vec_len l.values + length l.passes ≤ vec_capacity l.values + l.index;
}
