-- The invariant of the loop of `add_first_edges`.
use Rattle.llparse.proofs.Common.{take, Contains, Item, Adds, IsEdge, OfSome, node_of}
use Rattle.llparse.proofs.table.first.add_first_edges.Given as goal

abbrev pub invariant-loop-item : goal.invariant-loop-item
invariant-loop-item l =
    Adds (OfSome (λ (x : Item) e. IsEdge (node_of l.sizes.symbols l.sizes.literals x) l.left e) (take l.item-index l.items))
    (Contains l.initial.edges.items) (Contains l.edges.items)
