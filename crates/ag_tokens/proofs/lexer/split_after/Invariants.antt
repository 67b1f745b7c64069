use Rattle.std.proofs.Common.{length}
use denote.Text.{Utf8}
use denote.Shadow.{shadow}
use Rattle.ag_tokens.specs.Lexing.{is_in}
use Rattle.ag_tokens.proofs.Spans.{Passed}
use Rattle.ag_tokens.proofs.lexer.split_after.Given as goal

abbrev pub invariant-loop-after : goal.invariant-loop-after
invariant-loop-after l = shadow (Utf8 l.rest) × Passed (is_in l.class) l.text l.rest

abbrev pub decreases-loop-after : goal.decreases-loop-after
decreases-loop-after l = length l.rest
