use Rattle.std.proofs.Common.{◌≡◌, length, chars}
use denote.Text.{Utf8}
use denote.Shadow.{shadow}
use Rattle.ag_tokens.specs.Remaining.{after_separators}
use Rattle.ag_tokens.proofs.lexer.skip_separators.Given as goal

abbrev pub invariant-loop-following : goal.invariant-loop-following
invariant-loop-following l = shadow (Utf8 l.rest) × (after_separators (chars l.rest) ≡ after_separators (chars l.text))

abbrev pub decreases-loop-following : goal.decreases-loop-following
decreases-loop-following l = length l.rest
