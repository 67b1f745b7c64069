use Rattle.std.proofs.Common.{◌≡◌, ◌+◌, ◌≤◌, drop}
use Rattle.message_parts.specs.Positions.{after_bytes, position_at}
use Rattle.message_parts.proofs.position.Position.of.Given as goal

abbrev pub invariant-loop-byte : goal.invariant-loop-byte
invariant-loop-byte l = record {
  so_far : after_bytes l.position (drop l.byte-index l.before) ≡ position_at l.text l.at;
  line : l.position.line ≤ l.byte-index + 1;
  column : l.position.column ≤ l.byte-index + 1;
}
