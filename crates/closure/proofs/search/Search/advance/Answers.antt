-- The remaining goals of `advance`.
use Rattle.closure.proofs.Marks.{waits_at}
use Rattle.closure.proofs.search.Search.advance.Goals as goal

pub returns-clause-stops : goal.returns-clause-stops
returns-clause-stops c =
    λ d no. waits_at c.args.self.now.marks.items c.args.self.now.added.items c.args.self.now.visited c.args.self.now.clauses.now
    c.args.clause c.index-self-clause.result c.as_slice-body.result.now c.known_prefix_len-passed.result d c.requires.clause
    c.as_slice-body.ensures c.known_prefix_len-passed.ensures.within
    (rw (← c.as_slice.ensures.value) c.known_prefix_len-passed.ensures.stops) no
