use Rattle.std.proofs.Common.{rules}
use Rattle.ag_tokens.proofs.TextTurns.{past_escape}
use Rattle.ag_tokens.proofs.lexer.past_character.Goals as goal

pub returns-in-92-default : goal.returns-in-92-default
returns-in-92-default c =
    past_escape c.args.text.now c.in_ok-first.field-0.1.now c.past_escape.result (search rules)
    (search rules) c.past_escape.ensures
