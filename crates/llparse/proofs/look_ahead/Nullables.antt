-- The consequences of the clauses of a grammar are its nullable symbols.
use Rattle.llparse.proofs.Common
use Common.{ℕ, ◌+◌, ◌<◌, ◌↔◌, List, [], ◌∷◌, length, map, get_or, All, arith, Contains-get_or, Item, Grammar, IsAccepted}
use Common.{IsClauseBelow, Follows, at_mapped, mapped_at, IsNullable, by_production, AreNullable, nothing, a_symbol, node_in}
use Common.{clause_of, clauses_of}
use Common.item
use Rattle.std.proofs.lemmas.List.Elements.{All-head, All-map, All-tail}
use Rattle.closure.specs.Following.{FollowAll, by_clause, nothing as no_number, one_more}
use Rattle.closure.proofs.Following.{follows_in}
use Rattle.llparse.proofs.look_ahead.Firsts.{left_in, named_in, node_below}

module _ (g : Grammar) (ok : IsAccepted g) where
  -- the clauses are over the nodes
  pub clauses_below : All (IsClauseBelow (length g.symbols + (length g.literals + 4))) (clauses_of g)
  clauses_below =
      All-map (IsClauseBelow (length g.symbols + (length g.literals + 4)))
      (clause_of (length g.symbols) (length g.literals)) g.productions (λ p d lt.
      let q = get_or g.productions p d in
      let here = Contains-get_or g.productions p d lt in
      let left = left_in g ok q here in
      record {
        head = omega arith;
        body =
            All-map (λ t. t < length g.symbols + (length g.literals + 4)) (node_in g) q.items
            (λ i e inside. node_below g ok (get_or q.items i e)
            (named_in g ok q (get_or q.items i e) here (Contains-get_or q.items i e inside)));
      })

  -- a number of which `IsNullable` holds is that of a symbol of the grammar
  below_symbols : (s : ℕ) → IsNullable g s → s < length g.symbols
  below_symbols s (by_production p q e l h) = rw (← l) (ok.named.left_sides p q e)

  items_nullable : (xs : List Item) → All (IsNullable g) (map (node_in g) xs) → AreNullable g xs
  items_nullable [] all = nothing
  items_nullable (item.Symbol s ∷ xs) all =
      a_symbol (All-head (IsNullable g) s (map (node_in g) xs) all)
      (items_nullable xs (All-tail (IsNullable g) s (map (node_in g) xs) all))
  items_nullable (item.Terminal a ∷ xs) all =
      let bad =
      below_symbols (node_in g (item.Terminal a))
      (All-head (IsNullable g) (node_in g (item.Terminal a)) (map (node_in g) xs) all) in absurd (omega arith)

  follows_nullable : (s : ℕ) → Follows (clauses_of g) [] s → IsNullable g s
  follows_nullable = follows_in (clauses_of g) [] (IsNullable g) (λ t none. absurd (omega (arith, none.1))) (λ p c e all.
      let w = mapped_at (clause_of (length g.symbols) (length g.literals)) g.productions p c e in
      by_production p w.0 w.1 (cc) (items_nullable w.0.items (rw (← w.2) at all)))

  mutual
    nullable_follows : (s : ℕ) → IsNullable g s → Follows (clauses_of g) [] s
    nullable_follows s (by_production p q e l h) =
        by_clause p (clause_of (length g.symbols) (length g.literals) q)
        (at_mapped (clause_of (length g.symbols) (length g.literals)) g.productions p q e) l (all_follow q.items h)

    all_follow : (xs : List Item) → AreNullable g xs → FollowAll (clauses_of g) [] (map (node_in g) xs)
    all_follow [] nothing = no_number
    all_follow (item.Symbol s ∷ xs) (a_symbol h k) = one_more (nullable_follows s h) (all_follow xs k)

  pub nullable_iff : (s : ℕ) → Follows (clauses_of g) [] s ↔ IsNullable g s
  nullable_iff s = (follows_nullable s, nullable_follows s)
