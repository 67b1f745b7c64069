-- The invariant of the loop of `add_follow_edges`.
use Rattle.llparse.proofs.Common
use Common.{◌≡◌, drop, Contains, Item, all_nullable, OfRest, Adds, IsEdge, node_of, is_nullable_item, is_marked}
use Rattle.llparse.proofs.table.follow.add_follow_edges.Given as goal

abbrev pub invariant-loop-at : goal.invariant-loop-at
invariant-loop-at l = record {
  rest_nullable : l.rest_nullable ≡ all_nullable (is_nullable_item (is_marked l.nullable)) (drop l.at l.items);
  edges : Adds
      (OfRest (all_nullable (is_nullable_item (is_marked l.nullable)))
      (λ (x : Item) e. IsEdge l.left (node_of l.sizes.symbols l.sizes.literals x) e) (drop l.at l.items))
      (Contains l.initial.edges.items) (Contains l.edges.items);
}
