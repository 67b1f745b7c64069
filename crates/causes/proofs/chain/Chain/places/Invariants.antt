use Rattle.causes.proofs.Common.{◌≡◌, take, places_of}
use Rattle.causes.proofs.chain.Chain.places.Given as goal

abbrev pub invariant-loop-node : goal.invariant-loop-node
invariant-loop-node l = l.places.items ≡ places_of (take l.node-index l.self.nodes.items)
