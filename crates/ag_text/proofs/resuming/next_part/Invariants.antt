use Rattle.std.proofs.Common.{length, drop, chars}
use Rattle.ag_tokens.specs.Lexing.{token_of}
use Rattle.ag_tokens.specs.PlacedToken.{Input}
use Rattle.ag_tokens.specs.Tokens.{Lexes}
use Rattle.ag_text.proofs.Scanning.{Scanned}
use Rattle.ag_text.proofs.resuming.next_part.Given as goal

abbrev pub invariant-loop-token : goal.invariant-loop-token
invariant-loop-token l =
    (i : Input) → Lexes l.from (chars (drop l.from l.text)) i → Scanned l.at i l.cursor (token_of l.before)

abbrev pub decreases-loop-token : goal.decreases-loop-token
decreases-loop-token l = length l.cursor.left
