use Rattle.std.proofs.Common.{refl, sym, rules, chars}
use Rattle.ag_tokens.proofs.TokenLaws.{marked_token}
use Rattle.ag_tokens.proofs.lexer.quick_token.Goals as goal

pub returns-in_ok-mark : goal.returns-in_ok-mark
returns-in_ok-mark c =
    let x = c.in_ok-rest.field-0 in (
      rw c.in_ok-rest.ensures.0
          (marked_token x.0 (chars x.1.now) _ _ (search rules) c.in_ok-mark.ensures.unnamed (sym c.in_ok-mark.ensures.value)),
      refl,
    )
