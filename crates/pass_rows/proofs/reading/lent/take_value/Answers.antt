use Rattle.pass_rows.proofs.Common.{rules, arith}
use Rattle.pass_rows.proofs.Recorded.{taken_later, taken_value}
use Rattle.pass_rows.proofs.reading.lent.take_value.Goals as goal

pub returns-then-pass-k-clause-taken : goal.returns-then-pass-k-clause-taken
returns-then-pass-k-clause-taken c = taken_later c.requires (omega (arith, c.if-pass-k.true))

pub returns-clause-taken : goal.returns-clause-taken
returns-clause-taken c =
    taken_value (omega (arith, c.if-pass-k.false, c.if-pass-k-2.false)) (search rules) (search rules)
    c.in_ok-push-2.ensures.items
