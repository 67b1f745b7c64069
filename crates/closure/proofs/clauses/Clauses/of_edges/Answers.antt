-- The remaining goals of `of_edges`.
use Rattle.closure.proofs.Reached.{below}
use Rattle.closure.proofs.clauses.Clauses.of_edges.Goals as goal

pub new-requires : goal.new-requires
new-requires c = rw c.in_ok-clauses.ensures (below c.args.count c.args.edges.now c.requires)
