use Rattle.tree_index.specs.Nodes.{HasLater}
use Rattle.tree_index.proofs.index.TreeIndex.child_after.Given as goal

abbrev pub invariant-loop : goal.invariant-loop
invariant-loop l = HasLater l.self l.node l.counter l.child
