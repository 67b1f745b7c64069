use Rattle.tree_index.proofs.Paths.{child_at_end, root_at}
use Rattle.tree_index.proofs.index.TreeIndex.find_covering.Goals as goal

pub loop-level-init : goal.loop-level-init
loop-level-init c = rw c.new-places.ensures.items (root_at c.args.grammar.now c.args.self.now)

pub loop-level-preserved : goal.loop-level-preserved
loop-level-preserved c =
    let step = c.in-Some.step in
    rw c.in_ok-push.ensures.items
    (child_at_end c.args.grammar.now c.args.self.now c.loop-level.places.items c.loop-level.node step.place step.node
    c.loop-level.invariant c.in-Some.ensures.child)
