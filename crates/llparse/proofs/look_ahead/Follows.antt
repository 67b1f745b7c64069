-- The symbols with a look-ahead in FOLLOW are those that the edges for FOLLOW reach from its seeds.
use Rattle.llparse.proofs.Common
use Common.{ℕ, Contains, ◌+◌, ◌≡◌, ◌<◌, ◌⊎◌, ◌↔◌, Bool, true, List, ◌∷◌, ◌++◌, length, map, get_or, All, refl, inl, inr, arith}
use Common.{Contains-get_or, Contains-append_right, slice_get_within, Item, Production, Grammar, IsProduction, IsAccepted}
use Common.{IsNamedItem, Follows, seed, Edge, element_at, position_of_element, reached_in, step, IsNullable, IsInFirstOf}
use Common.{InFollow, at_end, next, last, IsFollowEdge, IsFollowSeed, node_in, Adds, InFirstOfItem, OfSome, Ahead}
use Common.item
use Common.ahead
use Rattle.closure.specs.Edges.{clause_of_edge, IsEdgeBelow}
use Rattle.llparse.proofs.look_ahead.CanStart.{can_start_iff, nullable_iff, rest_of_split, rest_split}
use Rattle.llparse.proofs.look_ahead.Edges.{contains_here, contains_there}
use Rattle.llparse.proofs.look_ahead.Firsts.{left_in, named_in, node_below, symbol_item}

module _ (g : Grammar) (ok : IsAccepted g) where
  start_below : g.start < length g.symbols
  start_below = slice_get_within g.symbols g.start ok.start.symbol ok.start.declared

  -- an item at which the right side of a production is split is named
  split_named : (q : Production) (xs ys : List Item) (z : Item) → Contains g.productions q → q.items ≡ xs ++ z ∷ ys
      → IsNamedItem g z
  split_named q xs ys z hq e =
      named_in g ok q z hq (rw e (Contains-append_right xs (z ∷ ys) z (contains_here z ys)))

  pub rest_named : (q : Production) (xs ys : List Item) (z : Item) → Contains g.productions q → q.items ≡ xs ++ z ∷ ys
      → (y : Item) → Contains ys y → IsNamedItem g y
  rest_named q xs ys z hq e y h =
      named_in g ok q y hq (rw e (Contains-append_right xs (z ∷ ys) y (contains_there z ys y h)))

module _ (g : Grammar) (ok : IsAccepted g) (n : ℕ → Bool) where
  pub follow_edges_below : (edges : List Edge) → ((e : Edge) → Contains edges e → OfSome (IsFollowEdge g n) g.productions e)
      → All (IsEdgeBelow (length g.symbols + (length g.literals + 4))) edges
  follow_edges_below edges some_edge k d lt =
      let e = get_or edges k d in
      let r = some_edge e (Contains-get_or edges k d lt) in
      let w = rest_split _ _ _ _ r.2 in
      let from = left_in g ok r.0 r.1 in
      let to = node_below g ok w.1 (split_named g ok r.0 w.0 w.2 w.1 r.1 w.3) in
      let is = w.5 in
      record { from = omega (arith, is.tail); to = rw is.head to }

  pub seeds_below : (b : ℕ → Bool) (x : Ahead) (seeds : List ℕ)
      → ((t : ℕ) → Contains seeds t → ((t ≡ g.start) × (x ≡ ahead.End)) ⊎ OfSome (IsFollowSeed g n b) g.productions t)
      → All (λ t. t < length g.symbols + (length g.literals + 4)) seeds
  seeds_below b x seeds some_seed k d lt = elim (some_seed (get_or seeds k d) (Contains-get_or seeds k d lt)) [
    | inl at_start ↦ let below = start_below g ok in omega (arith, at_start.0)
    | inr r ↦
        let w = rest_split _ _ _ _ r.2 in
        let below = node_below g ok w.1 (split_named g ok r.0 w.0 w.2 w.1 r.1 w.3) in
        omega (arith, w.5)
  ]

  -- the seeds are those of the productions, and the start symbol if the look-ahead is the end
  pub all_seeds : (b : ℕ → Bool) (x : Ahead) (ended : Bool) (start : ℕ) (before seeds : List ℕ) → ended ≡ true ↔ x ≡ ahead.End
      → start ≡ g.start → ((t : ℕ) → Contains before t ↔ OfSome (IsFollowSeed g n b) g.productions t)
      → Adds (λ t. (ended ≡ true) × (t ≡ start)) (Contains before) (Contains seeds) → (t : ℕ)
      → Contains seeds t ↔ ((t ≡ g.start) × (x ≡ ahead.End)) ⊎ OfSome (IsFollowSeed g n b) g.productions t
  all_seeds b x ended start before seeds is_end is known adds t = (
    λ h. elim (adds.only t h) [
      | inl old ↦ inr ((known t).0 old)
      | inr new ↦ inl (cc, is_end.0 new.0)
    ],
    λ h. elim h [
      | inl new ↦ adds.all t (is_end.1 new.1, cc)
      | inr old ↦ adds.kept t ((known t).1 old)
    ],
  )

  module _ (known : (s : ℕ) → n s ≡ true ↔ IsNullable g s) (x : Ahead) (b : ℕ → Bool)
      (begins : (y : Item) → IsNamedItem g y → b (node_in g y) ≡ true ↔ InFirstOfItem g y x) where
    followed : (p : ℕ) (q : Production) (xs ys : List Item) (s : ℕ) (x' : Ahead) → IsProduction g p q
        → q.items ≡ xs ++ item.Symbol s ∷ ys → IsInFirstOf g ys x' → InFollow g s x'
    followed p q xs ys s (ahead.Terminal a) e f h = next p q xs ys e f h
    followed p q xs ys s ahead.End e f h = absurd h

    seeded : (t : ℕ) → t < length g.symbols → ((t ≡ g.start) × (x ≡ ahead.End)) ⊎ OfSome (IsFollowSeed g n b) g.productions t
        → InFollow g t x
    seeded t lt (inl at_start) = rw (at_start.0, at_start.1) at_end
    seeded t lt (inr r) =
        let w = rest_split _ _ _ _ r.2 in
        let p = position_of_element g.productions r.0 r.1 in
        let split = rw (symbol_item g ok w.1 t lt w.5) at w.3 in
        followed p.0 r.0 w.0 w.2 t x p.1 split
        ((can_start_iff g n known x (λ y. b (node_in g y)) begins w.2 (rest_named g ok r.0 w.0 w.2 w.1 r.1 w.3)).0 w.4)

    module _ (edges : List Edge) (seeds : List ℕ)
        (exact : (e : Edge) → Contains edges e ↔ OfSome (IsFollowEdge g n) g.productions e)
        (seeds_are : (t : ℕ) → Contains seeds t ↔ ((t ≡ g.start) × (x ≡ ahead.End))
        ⊎ OfSome (IsFollowSeed g n b) g.productions t) where
      reached_follow : (t : ℕ) → Follows (map clause_of_edge edges) seeds t → t < length g.symbols → InFollow g t x
      reached_follow =
          reached_in edges seeds (λ t. t < length g.symbols → InFollow g t x) (λ t h lt. seeded t lt ((seeds_are t).0 h))
          (λ e h before lt.
          let r = (exact e).0 h in
          let q = r.0 in
          let w = rest_split _ _ _ _ r.2 in
          let p = position_of_element g.productions q r.1 in
          let split = rw (symbol_item g ok w.1 e.to lt w.5.head) at w.3 in
          let from : e.from ≡ q.left = w.5.tail in
          last p.0 q w.0 w.2 p.1 split ((nullable_iff g n known w.2).0 w.4)
          (rw from at (before (rw from (left_in g ok q r.1)))))

      follow_reached : (s : ℕ) (x' : Ahead) → x ≡ x' → InFollow g s x' → Follows (map clause_of_edge edges) seeds s
      follow_reached s x' is at_end = seed ((seeds_are g.start).1 (inl (refl, is)))
      follow_reached s x' is (next p q {a = a} xs ys e f h) =
          let hq = element_at g.productions p q e in
          let can_start =
          (can_start_iff g n known x (λ y. b (node_in g y)) begins ys (rest_named g ok q xs ys (item.Symbol s) hq f)).1
          (rw is h) in
          seed ((seeds_are s).1 (inr (q, hq, rest_of_split _ _ q.items xs (item.Symbol s) ys s f can_start refl)))
      follow_reached s x' is (last p q xs ys at f k h) =
          let e : Edge = record { from = q.left; to = s } in
          let nullable = (nullable_iff g n known ys).1 k in
          let there = rest_of_split _ _ q.items xs (item.Symbol s) ys e f nullable (record { tail = refl; head = refl }) in
          step edges seeds e ((exact e).1 (q, element_at g.productions p q at, there)) (follow_reached q.left x' is h)

      pub follow_iff : (s : ℕ) → s < length g.symbols → Follows (map clause_of_edge edges) seeds s ↔ InFollow g s x
      follow_iff s lt = (λ h. reached_follow s h lt, follow_reached s x refl)
