use Rattle.std.proofs.Common.{arith}
use Rattle.std.proofs.lemmas.Option.{slice_get-get_or}
use Rattle.plan_reasons.proofs.Linked.{links_more, links_whole}
use Rattle.plan_reasons.proofs.links.links_of.Goals as goal

pub loop-strike-preserved : goal.loop-strike-preserved
loop-strike-preserved c = record {
  within = let t = c.loop-strike-test.true in omega (arith, t);
  linked =
      links_more c.args.grammar.now c.args.strikes.now c.loop-strike.strike-index _ c.loop-strike.links.items
      c.append_link.new.links.items (slice_get-get_or c.args.strikes.now c.loop-strike.strike-index _ c.loop-strike-test.true)
      c.loop-strike.invariant.linked c.in_ok-append_link.ensures;
}

pub returns : goal.returns
returns c =
    λ all. links_whole c.args.grammar.now c.args.strikes.now c.loop-strike.strike-index c.loop-strike.links.items
    c.loop-strike-test.false c.loop-strike.invariant.within (c.loop-strike.invariant.linked all)
