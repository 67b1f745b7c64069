use Rattle.std.proofs.Common.{◌≡◌, ◌++◌, length, chars}
use Rattle.std.specs.Prelude.{string_bytes}
use denote.Text.{Utf8}
use denote.Shadow.{shadow}
use Rattle.ag_tokens.specs.Lexing.{unescaped}
use Rattle.ag_tokens.proofs.lexer.unescaped.Given as goal

abbrev pub invariant-loop-c : goal.invariant-loop-c
invariant-loop-c l = shadow (Utf8 l.rest) × (string_bytes l.text ++ unescaped (chars l.rest) ≡ unescaped (chars l.body))

abbrev pub decreases-loop-c : goal.decreases-loop-c
decreases-loop-c l = length (chars l.rest)
