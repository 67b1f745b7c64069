-- The list has the old edges and the new one.
use Rattle.llparse.proofs.look_ahead.Edges.{adds_edge}
use Rattle.llparse.proofs.table.first.add_edge.Goals as goal

pub returns : goal.returns
returns c = rw c.in_ok-push.ensures.items (adds_edge c.args.edges.now.items c.args.from c.args.to)
