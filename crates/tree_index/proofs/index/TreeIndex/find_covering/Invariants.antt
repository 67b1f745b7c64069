use Rattle.tree_index.specs.Nodes.{HasNodeAt}
use Rattle.tree_index.proofs.index.TreeIndex.find_covering.Given as goal

abbrev pub invariant-loop-level : goal.invariant-loop-level
invariant-loop-level l = HasNodeAt l.grammar l.self l.places.items l.node
