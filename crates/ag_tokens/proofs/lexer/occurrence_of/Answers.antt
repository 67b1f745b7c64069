use Rattle.ag_tokens.proofs.Numerals.{place_refused}
use Rattle.ag_tokens.proofs.lexer.occurrence_of.Goals as goal

pub returns-in-Err : goal.returns-in-Err
returns-in-Err c = place_refused c.args.digits.now c.in-Err.field-0 c.requires c.in-Err.ensures.value.0
