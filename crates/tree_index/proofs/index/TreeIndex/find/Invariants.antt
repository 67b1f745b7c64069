use Rattle.std.proofs.Common.{take}
use Rattle.tree_index.specs.Nodes.{HasNodeAt}
use Rattle.tree_index.proofs.index.TreeIndex.find.Given as goal

abbrev pub invariant-loop-place : goal.invariant-loop-place
invariant-loop-place l = HasNodeAt l.grammar l.self (take l.place-index l.places) l.node
