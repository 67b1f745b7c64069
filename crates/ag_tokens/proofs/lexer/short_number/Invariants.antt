use Rattle.std.proofs.Common.{◌∷◌, length, chars}
use denote.Text.{Utf8}
use denote.Shadow.{shadow}
use Rattle.ag_tokens.proofs.Numerals.{WorkedOut}
use Rattle.ag_tokens.proofs.lexer.short_number.Given as goal

abbrev pub invariant-loop-c : goal.invariant-loop-c
invariant-loop-c l = shadow (Utf8 l.rest) × WorkedOut (l.fn.digit ∷ chars l.text) l.number l.rest

abbrev pub decreases-loop-c : goal.decreases-loop-c
decreases-loop-c l = length (chars l.rest)
