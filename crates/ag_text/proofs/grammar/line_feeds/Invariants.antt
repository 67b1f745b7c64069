use Rattle.std.proofs.Common.{◌≡◌, ◌+◌, drop}
use Rattle.ag_text.specs.Answers.{line_feeds}
use Rattle.ag_text.proofs.grammar.line_feeds.Given as goal

abbrev pub invariant-loop-byte : goal.invariant-loop-byte
invariant-loop-byte l = l.count + line_feeds (drop l.byte-index l.bytes) ≡ line_feeds l.bytes
