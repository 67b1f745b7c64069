use Rattle.std.proofs.Common.{rules}
use Rattle.ag_tokens.proofs.TextTurns.{starts, goes_on, stopped, boundary, body_is}
use Rattle.ag_tokens.proofs.lexer.leading_quoted.Goals as goal

pub loop-after-init : goal.loop-after-init
loop-after-init c = (c.utf8.text, starts c.args.text.now)

pub loop-after-preserved : goal.loop-after-preserved
loop-after-preserved c = (search rules, goes_on c.in-Some.ensures c.loop-after.invariant.1)

pub split_at-requires : goal.split_at-requires
split_at-requires c = boundary c.loop-after.invariant.1 c.loop-after.invariant.0

pub returns-in-Some-after_quote : goal.returns-in-Some-after_quote
returns-in-Some-after_quote c =
    rw (
      stopped c.loop-after.invariant.1 c.in_default.ensures,
      ← c.in-Some-after_quote.ensures,
      c.split_at.ensures.front,
      body_is c.loop-after.invariant.1 c.utf8.text c.loop-after.invariant.0,
    )

pub returns-in-None : goal.returns-in-None
returns-in-None c = rw (stopped c.loop-after.invariant.1 c.in_default.ensures, ← c.in-None.ensures)
