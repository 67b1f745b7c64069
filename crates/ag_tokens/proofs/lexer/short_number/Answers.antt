use Rattle.std.proofs.Common.{rules, arith, ap, ◌∙◌, pos}
use Rattle.std.proofs.lemmas.Int.{to_z_pos}
use mir.Syntax.{w64}
use Rattle.ag_tokens.proofs.Numerals.{begins, goes_on, value_of, rest_of}
use Rattle.ag_tokens.proofs.lexer.short_number.Goals as goal

pub loop-c-init : goal.loop-c-init
loop-c-init c = (c.utf8.text, begins c.requires)

pub loop-c-preserved : goal.loop-c-preserved
loop-c-preserved c = (
  search rules,
  goes_on c.in-Some.ensures.0 c.in-Some.ensures.1.0 c.if-number-gt99999999999999999.false c.loop-c.invariant.1,
)

pub returns-clause-value : goal.returns-clause-value
returns-clause-value c =
    let small = c.loop-c.invariant.1.small in
    to_z_pos w64 c.loop-c.number (omega arith) ∙ ap pos (value_of c.in_default.ensures c.loop-c.invariant.1)

pub returns-clause-rest : goal.returns-clause-rest
returns-clause-rest c = rest_of c.in_default.ensures c.loop-c.invariant.1
