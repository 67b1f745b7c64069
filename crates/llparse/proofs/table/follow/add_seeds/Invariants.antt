use Rattle.llparse.proofs.Common
use Common.{ℕ, ◌≡◌, drop, false, Contains, Item, can_start_in, OfRest, Adds, node_of, is_nullable_item, is_marked}
use Rattle.llparse.proofs.table.follow.add_seeds.Given as goal

abbrev pub invariant-loop-at : goal.invariant-loop-at
invariant-loop-at l = record {
  next : l.next ≡ can_start_in (λ (x : Item). is_marked l.in_first (node_of l.sizes.symbols l.sizes.literals x))
      (is_nullable_item (is_marked l.nullable)) false (drop l.at l.items);
  seeds : Adds
      (OfRest
      (can_start_in (λ (x : Item). is_marked l.in_first (node_of l.sizes.symbols l.sizes.literals x))
      (is_nullable_item (is_marked l.nullable)) false)
      (λ (x : Item) (t : ℕ). t ≡ node_of l.sizes.symbols l.sizes.literals x) (drop l.at l.items))
      (Contains l.initial.seeds.items) (Contains l.seeds.items);
}
