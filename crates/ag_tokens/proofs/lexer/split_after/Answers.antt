use Rattle.std.proofs.Common.{rules}
use Rattle.ag_tokens.proofs.Spans.{goes_on, nearer, boundary, prefix_is_cut, back_cut}
use Rattle.ag_tokens.proofs.lexer.split_after.Goals as goal

pub loop-after-smaller : goal.loop-after-smaller
loop-after-smaller c = nearer c.args.class c.loop-after.rest.now c.in-Some.after c.in-Some.ensures

pub loop-after-preserved : goal.loop-after-preserved
loop-after-preserved c = (search rules, goes_on c.args.class c.in-Some.after c.in-Some.ensures c.loop-after.invariant.1)

pub split_at-requires : goal.split_at-requires
split_at-requires c = boundary c.args.class c.loop-after.invariant.1 c.loop-after.invariant.0

pub returns-clause-prefix : goal.returns-clause-prefix
returns-clause-prefix c = rw c.split_at.ensures.front (prefix_is_cut c.args.class c.loop-after.invariant.1 c.in_default.ensures)

pub returns-clause-rest : goal.returns-clause-rest
returns-clause-rest c = rw c.split_at.ensures.back (back_cut c.args.class c.loop-after.invariant.1 c.in_default.ensures)
