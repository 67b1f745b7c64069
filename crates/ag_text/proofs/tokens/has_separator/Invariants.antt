use Rattle.std.proofs.Common.{◌≡◌, drop}
use Rattle.std.specs.List.{list_any}
use Rattle.ag_tokens.specs.Tokens.{is_separator}
use Rattle.ag_text.proofs.tokens.has_separator.Given as goal

abbrev pub invariant-loop-byte : goal.invariant-loop-byte
invariant-loop-byte l = list_any is_separator (drop l.byte-index l.bytes) ≡ list_any is_separator l.bytes
