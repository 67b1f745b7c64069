-- The symbols with a look-ahead in FIRST are those that the edges for FIRST reach from it.
use Rattle.llparse.proofs.Common
use Common.{ℕ, Contains, ◌+◌, ◌≡◌, ◌<◌, ◌⊎◌, ◌↔◌, Bool, true, false, List, [], ◌∷◌, length, map, get_or, All, refl, subst, sym}
use Common.{inl, inr, arith, if◌then◌else◌, Contains-get_or, Item, Production, Terminal, Literal, Class, Grammar, IsAccepted}
use Common.{IsNamedItem, Follows, seed, Edge, element_at, position_of_element, reached_in, step, IsNullable, InFirst}
use Common.{of_production, InFirstOf, here, inside, later, starting_items, node_in, InFirstOfItem, IsFirstEdge, IsKnownAhead}
use Common.{OfSome, index_of, is_nullable_item, Ahead}
use Common.item
use Common.ahead
use Rattle.closure.specs.Edges.{clause_of_edge, IsEdgeBelow}
use Rattle.llparse.proofs.look_ahead.Edges.{contains_none, contains_here, contains_there, cons_cases}

-- an element of a list that is empty unless b holds
within_if : (b : Bool) (zs : List Item) (y : Item) → Contains (if b then zs else []) y → (b ≡ true) × Contains zs y
within_if true zs y h = (refl, h)
within_if false zs y h = absurd (contains_none y h)

module _ (g : Grammar) (ok : IsAccepted g) where
  -- an item of a production is named
  pub named_in : (q : Production) (y : Item) → Contains g.productions q → Contains q.items y → IsNamedItem g y
  named_in q y hq hy =
      let p = position_of_element g.productions q hq in
      let i = position_of_element q.items y hy in
      ok.named.items_named p.0 q p.1 i.0 y i.1

  pub left_in : (q : Production) → Contains g.productions q → q.left < length g.symbols
  left_in q hq = let p = position_of_element g.productions q hq in ok.named.left_sides p.0 q p.1

  pub node_below : (y : Item) → IsNamedItem g y → node_in g y < length g.symbols + (length g.literals + 4)
  node_below (item.Symbol s) h = omega arith
  node_below (item.Terminal (Literal l)) h = omega arith
  node_below (item.Terminal (Class c)) h = let lt = ok.named.classes_known h.0 c h.1 in omega arith

  pub symbol_item : (y : Item) (u : ℕ) → u < length g.symbols → u ≡ node_in g y → y ≡ item.Symbol u
  symbol_item (item.Symbol s) u lt e = cc
  symbol_item (item.Terminal a) u lt e = absurd (omega arith)

  pub known_terminal : (a : Terminal) → IsNamedItem g (item.Terminal a) → IsKnownAhead g (ahead.Terminal a)
  known_terminal (Literal l) h = h
  known_terminal (Class c) h = ok.named.classes_known h.0 c h.1

  -- look-aheads with the same index are equal
  pub same_ahead : (x y : Ahead) → IsKnownAhead g x → IsKnownAhead g y
      → index_of (length g.literals) x ≡ index_of (length g.literals) y → x ≡ y
  same_ahead (ahead.Terminal (Literal l)) (ahead.Terminal (Literal m)) h k e = cc
  same_ahead (ahead.Terminal (Literal l)) (ahead.Terminal (Class c)) h k e = absurd (omega arith)
  same_ahead (ahead.Terminal (Literal l)) ahead.End h k e = absurd (omega arith)
  same_ahead (ahead.Terminal (Class c)) (ahead.Terminal (Literal m)) h k e = absurd (omega arith)
  same_ahead (ahead.Terminal (Class c)) (ahead.Terminal (Class d)) h k e = let same : c ≡ d = omega arith in cc
  same_ahead (ahead.Terminal (Class c)) ahead.End h k e = absurd (omega arith)
  same_ahead ahead.End (ahead.Terminal (Literal m)) h k e = absurd (omega arith)
  same_ahead ahead.End (ahead.Terminal (Class c)) h k e = absurd (omega arith)
  same_ahead ahead.End ahead.End h k e = refl

  pub index_below : (x : Ahead) → IsKnownAhead g x → index_of (length g.literals) x < length g.literals + 4
  index_below (ahead.Terminal (Literal l)) h = omega arith
  index_below (ahead.Terminal (Class c)) h = omega arith
  index_below ahead.End h = omega arith

  first_below : (s : ℕ) (a : Terminal) → InFirst g s a → s < length g.symbols
  first_below s a (of_production p q e l h) = rw (← l) (ok.named.left_sides p q e)

  abbrev root : Ahead → ℕ
  root x = length g.symbols + index_of (length g.literals) x

  module _ (n : ℕ → Bool) where
    prefix_within : (xs : List Item) (y : Item) → Contains (starting_items n xs) y → Contains xs y
    prefix_within [] y h = h
    prefix_within (x ∷ xs) y h = elim (cons_cases x _ y h) [
      | inl e ↦ rw e (contains_here y xs)
      | inr more ↦
          contains_there x xs y (prefix_within xs y (within_if (is_nullable_item n x) (starting_items n xs) y more).1)
    ]

    -- the edges are between nodes
    pub edges_below : (edges : List Edge) → ((e : Edge) → Contains edges e → OfSome (IsFirstEdge g n) g.productions e)
        → All (IsEdgeBelow (length g.symbols + (length g.literals + 4))) edges
    edges_below edges some_edge k d lt =
        let r = some_edge (get_or edges k d) (Contains-get_or edges k d lt) in
        let below = left_in r.0 r.1 in
        let from = node_below r.2.0 (named_in r.0 r.2.0 r.1 (prefix_within r.0.items r.2.0 r.2.1)) in
        let is = r.2.2 in
        record { from = rw is.tail from; to = omega (arith, is.head) }

    module _ (known_empty : (s : ℕ) → n s ≡ true ↔ IsNullable g s) where
      after_nullable : (x : Item) (xs : List Item) (a : Terminal) → is_nullable_item n x ≡ true → InFirstOf g xs a
          → InFirstOf g (x ∷ xs) a
      after_nullable (item.Symbol s) xs a h k = later ((known_empty s).0 h) k
      after_nullable (item.Terminal b) xs a h k = cc

      -- a terminal in FIRST of a starting item of some items is in FIRST of the items
      prefix_first : (xs : List Item) (y : Item) (a : Terminal) → Contains (starting_items n xs) y
          → ((zs : List Item) → InFirstOf g (y ∷ zs) a) → InFirstOf g xs a
      prefix_first [] y a h begins = absurd (contains_none y h)
      prefix_first (x ∷ xs) y a h begins = elim (cons_cases x _ y h) [
        | inl e ↦ rw e (begins xs)
        | inr more ↦
            let after = within_if (is_nullable_item n x) (starting_items n xs) y more in
            after_nullable x xs a after.0 (prefix_first xs y a after.1 begins)
      ]

      module _ (edges : List Edge) (exact : (e : Edge) → Contains edges e ↔ OfSome (IsFirstEdge g n) g.productions e) where
        abbrev Reached : Ahead → ℕ → Type 0
        Reached x t = Follows (map clause_of_edge edges) (root x ∷ []) t

        -- the node of a symbol with a terminal in FIRST is reached from the node of the terminal
        mutual
          first_reached : (s : ℕ) (a : Terminal) → InFirst g s a → Reached (ahead.Terminal a) s
          first_reached s a (of_production p q e l h) =
              let r = prefix_reached q.items a h in
              let new : Edge = record { from = node_in g r.0; to = s } in
              step edges _ new
              ((exact new).1 (q, element_at g.productions p q e, (r.0, r.1, record { tail = refl; head = cc }))) r.2

          prefix_reached : (xs : List Item) (a : Terminal) → InFirstOf g xs a
              → (y : Item) × Contains (starting_items n xs) y × Reached (ahead.Terminal a) (node_in g y)
          prefix_reached (item.Terminal b ∷ xs) a here =
              (item.Terminal a, contains_here (item.Terminal a) [], seed (contains_here (root (ahead.Terminal a)) []))
          prefix_reached (item.Symbol s ∷ xs) a (inside h) =
              (item.Symbol s, contains_here (item.Symbol s) _, first_reached s a h)
          prefix_reached (item.Symbol s ∷ xs) a (later k h) =
              let r = prefix_reached xs a h in
              (r.0, contains_there (item.Symbol s) _ r.0 (rw ((known_empty s).1 k) r.1), r.2)

        reached_of : (x : Ahead) (y : Item) → InFirstOfItem g y x → Reached x (node_in g y)
        reached_of (ahead.Terminal a) (item.Symbol s) h = first_reached s a h
        reached_of ahead.End (item.Symbol s) h = absurd h
        reached_of x (item.Terminal b) h = rw (← h) (seed (contains_here (node_in g (item.Terminal b)) []))

        module _ (x : Ahead) (known : IsKnownAhead g x) where
          abbrev May : ℕ → Type 0
          May t = (a : Terminal) × (x ≡ ahead.Terminal a) × InFirst g t a

          root_item : (y : Item) → IsNamedItem g y → node_in g y ≡ root x
              → (a : Terminal) × (y ≡ item.Terminal a) × (x ≡ ahead.Terminal a)
          root_item (item.Symbol s) h e = absurd (omega arith)
          root_item (item.Terminal a) h e =
              (a, refl, same_ahead x (ahead.Terminal a) known (known_terminal a h) (omega arith))

          -- a node that is reached is that of the look-ahead, or that of a symbol with the look-ahead in FIRST
          reached_may : (t : ℕ) → Reached x t → (t ≡ root x) ⊎ May t
          reached_may = reached_in edges (root x ∷ []) (λ t. (t ≡ root x) ⊎ May t) (λ t h. elim (cons_cases (root x) [] t h) [
            | inl e ↦ inl (cc)
            | inr none ↦ absurd (contains_none t none)
          ]) (λ e h before.
              let r = (exact e).0 h in
              let q = r.0 in
              let p = position_of_element g.productions q r.1 in
              let y = r.2.0 in
              elim before [
                | inl at_root ↦
                    let f = root_item y (named_in q y r.1 (prefix_within q.items y r.2.1)) (cc (r.2.2.tail, at_root)) in
                    inr (
                      f.0,
                      f.2,
                      of_production p.0 q p.1 (cc)
                          (prefix_first q.items y f.0 r.2.1 (λ zs. subst (λ z. InFirstOf g (z ∷ zs) f.0) (sym f.1) here)),
                    )
                | inr may ↦
                    let same = symbol_item y e.from (first_below e.from may.0 may.2) r.2.2.tail in
                    inr (
                      may.0,
                      may.1,
                      of_production p.0 q p.1 (cc) (prefix_first q.items y may.0 r.2.1 (λ zs. rw same (inside may.2))),
                    )
              ])

          begins_of : (y : Item) → IsNamedItem g y → (node_in g y ≡ root x) ⊎ May (node_in g y) → InFirstOfItem g y x
          begins_of (item.Symbol s) h (inl e) = absurd (omega arith)
          begins_of (item.Symbol s) h (inr may) = rw may.1 may.2
          begins_of (item.Terminal b) h (inl e) = let f = root_item (item.Terminal b) h e in cc (f.1, f.2)
          begins_of (item.Terminal b) h (inr may) = let lt = first_below (node_in g (item.Terminal b)) may.0 may.2 in
              absurd (omega arith)

          pub first_iff : (y : Item) → IsNamedItem g y → Reached x (node_in g y) ↔ InFirstOfItem g y x
          first_iff y h = (λ r. begins_of y h (reached_may (node_in g y) r), reached_of x y)
