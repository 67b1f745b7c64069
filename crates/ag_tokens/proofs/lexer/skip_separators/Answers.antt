use Rattle.std.proofs.Common.{rules, ◌∙◌}
use Rattle.ag_tokens.specs.declared.lexer.Class.TheVariants as class
use Rattle.ag_tokens.proofs.Spans.{nearer, skipped}
use Rattle.ag_tokens.proofs.lexer.skip_separators.Goals as goal

pub loop-following-smaller : goal.loop-following-smaller
loop-following-smaller c = nearer class.Separator c.loop-following.rest.now c.in-Some.following c.in-Some.ensures

pub loop-following-preserved : goal.loop-following-preserved
loop-following-preserved c =
    (search rules, skipped c.loop-following.rest.now c.in-Some.following c.in-Some.ensures ∙ c.loop-following.invariant.1)

pub returns : goal.returns
returns c = rw (← c.loop-following.invariant.1, c.in_default.ensures)
