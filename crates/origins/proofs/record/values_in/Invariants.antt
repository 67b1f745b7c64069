use Rattle.origins.proofs.Common.{◌≡◌, ◌++◌, All, flat_map, length, spelling_of, IsWell}
use Rattle.origins.proofs.record.values_in.Given as goal

abbrev pub invariant-loop-value : goal.invariant-loop-value
invariant-loop-value l = record {
  well : All IsWell l.values.items;
  spelled : l.bytes ≡ flat_map spelling_of l.values.items ++ l.rest;
  counted : length l.values.items ≡ l._value;
}
