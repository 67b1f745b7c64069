-- The remaining goals of `mark_seeds`.
use Rattle.std.proofs.Common.{take_all, ◌∙◌}
use Rattle.closure.proofs.Marks.{seeded_more, grows_on}
use Rattle.closure.proofs.search.Search.mark_seeds.Goals as goal

pub loop-index-preserved : goal.loop-index-preserved
loop-index-preserved c = record {
  clauses = c.in_ok-mark.ensures.clauses ∙ c.loop-index.invariant.clauses;
  seeds = c.in_ok-mark.ensures.seeds ∙ c.loop-index.invariant.seeds;
  search = c.in_ok-mark.ensures.search;
  visited = c.in_ok-mark.ensures.visited ∙ c.loop-index.invariant.visited;
  grows = grows_on _ _ _ _ _ _ _ c.loop-index.invariant.grows (rw (← c.loop-index.invariant.visited) c.in_ok-mark.ensures.grows);
  marked =
      seeded_more _ _ c.args.self.now.seeds.now c.loop-index.index c.loop-index-test.true c.in_ok-mark.ensures.grows.marked
      c.loop-index.invariant.marked c.in_ok-mark.ensures.marked;
}

pub returns-clause-marked : goal.returns-clause-marked
returns-clause-marked c =
    λ t h. c.loop-index.invariant.marked t (rw (take_all c.loop-index.index c.args.self.now.seeds.now c.loop-index-test.false) h)
