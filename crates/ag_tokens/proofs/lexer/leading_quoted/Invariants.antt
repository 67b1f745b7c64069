use Rattle.std.proofs.Common.{[], length, chars}
use denote.Text.{Utf8}
use denote.Shadow.{shadow}
use Rattle.ag_tokens.specs.Lexing.{text_from}
use Rattle.ag_tokens.proofs.TextTurns.{Within}
use Rattle.ag_tokens.proofs.lexer.leading_quoted.Given as goal

abbrev pub invariant-loop-after : goal.invariant-loop-after
invariant-loop-after l = shadow (Utf8 l.rest) × Within l.text l.rest (text_from (length (chars l.text)) [] (chars l.text))

abbrev pub decreases-loop-after : goal.decreases-loop-after
decreases-loop-after l = length (chars l.rest)
