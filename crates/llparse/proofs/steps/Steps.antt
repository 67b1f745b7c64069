-- The effect of each step of the parser on the trees that complete the open nodes.
use Rattle.llparse.proofs.Common
use Common.{ap, ◌≡◌, ◌↔◌, ℕ, List, [], ◌∷◌, ◌++◌, Some, None, refl, append_assoc, append-nil, arith, Item, Production, Terminal}
use Common.{Literal, Class, Grammar, IsProduction, literal_text, IsTokenText, Tree, leaf, node, Forest, none, more, Lexeme}
use Common.{yield_along, yield_of, HasNoConflict, InFollow, at_end, Predicts, ahead_of, joined, Open, open_at, Continues}
use Common.{Completes, IsStack, ContinuesWith, IsTreeWith, Choices, FitsGrammar, choice_of}
use Common.item
use Common.ahead
use Rattle.llparse.proofs.Unique as unique

pub joined_assoc : (a b c : Forest) → joined (joined a b) c ≡ joined a (joined b c)
joined_assoc none b c = refl
joined_assoc (more t a) b c = cc (joined_assoc a b c)

pub joined_none : (a : Forest) → joined a none ≡ a
joined_none none = refl
joined_none (more t a) = cc (joined_none a)

module _ (g : Grammar) where
  abbrev words : Tree → List Lexeme
  words = yield_of g

  abbrev all_words : Forest → List Item → List Lexeme
  all_words ts xs = yield_along g xs ts

  -- at the beginning a tree of the start symbol is expected
  pub begin : (ws : List Lexeme) (t : Tree) → IsTreeWith g ws t ↔ ContinuesWith g [] g.start ws t
  begin ws t = (
    λ p. (t, [], p.tree, cc (append-nil (words t)), (refl, refl)),
    λ h. let (c, vs, is, e, same) = h in record { tree = rw same.1 is; yields = cc (append-nil (words c), e, same.0, same.1) },
  )

  -- the next item is a symbol: a tree of it is expected
  pub ask : (p : ℕ) (done : Forest) (s : ℕ) (xs : List Item) (os : List Open) (ws : List Lexeme) (t : Tree)
      → Completes g (open_at p done (item.Symbol s ∷ xs)) os ws t ↔ ContinuesWith g (open_at p done xs ∷ os) s ws t
  ask p done s xs os ws t = (
    there,
    λ h.
        let (c, us, is, e, k) = h in
        let (fs, vs, fit, e2, k2) = k in
        (more c fs, vs, (is, fit), cc (append_assoc (words c) (all_words fs xs) vs, e, e2), k2),
  )
    where
      there : Completes g (open_at p done (item.Symbol s ∷ xs)) os ws t → ContinuesWith g (open_at p done xs ∷ os) s ws t
      there (none, vs, fit, e, k) = absurd fit
      there (more c fs, vs, fit, e, k) =
          (c, all_words fs xs ++ vs, fit.0, rw e (append_assoc (words c) (all_words fs xs) vs), (fs, vs, fit.1, refl, k))

  -- the look-ahead after a child of the innermost open node is in FOLLOW of the child's symbol
  follow_of : (os : List Open) (s : ℕ) → IsStack g os s → (c : Tree) (ws : List Lexeme) (t : Tree) → Continues g os c ws t
      → InFollow g s (ahead_of ws)
  follow_of [] s is c ws t (e, same) = rw (e, is) at_end
  follow_of (o ∷ os) s (q, before, get, items, is) c ws t (fs, vs, fit, e, k) =
      rw e (unique.follows g o.production q get before o.rest s items fs fit vs (follow_of os q.left is _ vs t k))

  -- the expected tree has a production that is predicted
  pub open_next : (os : List Open) (s : ℕ) (ws : List Lexeme) (t : Tree) → IsStack g os s → ContinuesWith g os s ws t
      → (k : ℕ) × (q : Production) × (IsProduction g k q) × (q.left ≡ s) × Predicts g q (ahead_of ws)
      × Completes g (open_at k none q.items) os ws t
  open_next os s ws t is (leaf d lex, vs, tree, e, c) = absurd tree
  open_next os s ws t is (node k ts, vs, (q, get, left, fits), e, c) =
      let split : ws ≡ all_words ts q.items ++ vs = cc (unique.items_are g k q get) in
      let f : InFollow g q.left (ahead_of vs) = rw left (follow_of os s is (node k ts) vs t c) in
      (k, q, get, left, rw split (unique.predicted g k q get ts fits vs f), (ts, vs, fits, split, c))

  pub open_back : (os : List Open) (s : ℕ) (ws : List Lexeme) (t : Tree) (k : ℕ) (q : Production) → IsProduction g k q
      → q.left ≡ s
      → Completes g (open_at k none q.items) os ws t → ContinuesWith g os s ws t
  open_back os s ws t k q get left (ts, vs, fits, e, c) =
      (node k ts, vs, (q, get, left, fits), cc (unique.items_are g k q get), c)

  -- if the table has a production, the trees are those with it
  pub opens : (tables : Choices) → FitsGrammar g tables
      → (os : List Open) (s : ℕ) (ws : List Lexeme) (t : Tree) (k : ℕ) (q : Production)
      → IsStack g os s → choice_of tables s (ahead_of ws) ≡ Some k → IsProduction g k q → q.left ≡ s
      → ContinuesWith g os s ws t ↔ Completes g (open_at k none q.items) os ws t
  opens tables fits os s ws t k q is chosen get left = (
    λ w.
        let n = open_next os s ws t is w in
        let too = (fits s (ahead_of ws) n.0).1 (n.1, n.2, n.3, n.4) in
        let one : n.0 ≡ k = cc in
        let rule : n.1 ≡ q = cc (n.2) in
        rw (one, rule) at n.5,
    open_back os s ws t k q get left,
  )

  -- if the table has no production, no tree of the symbol comes next
  pub no_rule : (tables : Choices) → FitsGrammar g tables → (os : List Open) (s : ℕ) (ws : List Lexeme) (t : Tree)
      → IsStack g os s → choice_of tables s (ahead_of ws) ≡ None → ContinuesWith g os s ws t → ⊥
  no_rule tables fits os s ws t is unnamed w =
      let n = open_next os s ws t is w in
      let too = (fits s (ahead_of ws) n.0).1 (n.1, n.2, n.3, n.4) in
      cc

  abbrev literal_word : ℕ → Lexeme
  literal_word l = (Literal l, literal_text g l)

  -- if the next item is a literal, the first of the remaining words is this literal
  literal_next : (p : ℕ) (done : Forest) (l : ℕ) (xs : List Item) (os : List Open) (ws : List Lexeme) (t : Tree)
      → Completes g (open_at p done (item.Terminal (Literal l) ∷ xs)) os ws t
      → (rest : List Lexeme) × (ws ≡ literal_word l ∷ rest) × Completes g (open_at p done xs) os rest t
  literal_next p done l xs os ws t (fs, vs, fit, e, k) = (all_words fs xs ++ vs, e, (fs, vs, fit, refl, k))

  pub literal : (p : ℕ) (done : Forest) (l : ℕ) (xs : List Item) (os : List Open) (rest : List Lexeme) (t : Tree)
      → Completes g (open_at p done (item.Terminal (Literal l) ∷ xs)) os (literal_word l ∷ rest) t
      ↔ Completes g (open_at p done xs) os rest t
  literal p done l xs os rest t = (
    λ h.
        let n = literal_next p done l xs os (literal_word l ∷ rest) t h in
        let same : n.0 ≡ rest = cc n.1 in
        rw same at n.2,
    λ h. let (fs, vs, fit, e, k) = h in (fs, vs, fit, cc e, k),
  )

  -- if the next item is a class, the first of the remaining words is of this class, and becomes a leaf
  pub class_next : (p : ℕ) (done : Forest) (c : ℕ) (xs : List Item) (os : List Open) (ws : List Lexeme) (t : Tree)
      → Completes g (open_at p done (item.Terminal (Class c) ∷ xs)) os ws t
      → (x : List ℕ) × (rest : List Lexeme) × (ws ≡ (Class c, x) ∷ rest)
      × Completes g (open_at p (joined done (more (leaf c x) none)) xs) os rest t
  class_next p done c xs os ws t (none, vs, fit, e, k) = absurd fit
  class_next p done c xs os ws t (more (node i ts) fs, vs, fit, e, k) = absurd fit.0
  class_next p done c xs os ws t (more (leaf d x) fs, vs, fit, e, k) =
      (x, all_words fs xs ++ vs, cc, (fs, vs, fit.1, refl, rw (joined_assoc, fit.0.0) k))

  pub class : (p : ℕ) (done : Forest) (c : ℕ) (x : List ℕ) (xs : List Item) (os : List Open) (rest : List Lexeme) (t : Tree)
      → IsTokenText x
      → Completes g (open_at p done (item.Terminal (Class c) ∷ xs)) os ((Class c, x) ∷ rest) t
      ↔ Completes g (open_at p (joined done (more (leaf c x) none)) xs) os rest t
  class p done c x xs os rest t text = (
    λ h.
        let n = class_next p done c xs os ((Class c, x) ∷ rest) t h in
        let heads : (Class c, x) ≡ (Class c, n.0) = cc n.2 in
        let same_text = ap (λ (y : Lexeme). y.1) heads in
        let same : n.1 ≡ rest = cc n.2 in
        rw (← same_text, same) at n.3,
    λ h. let (fs, vs, fit, e, k) = h in (more (leaf c x) fs, vs, ((refl, text), fit), cc e, rw joined_assoc at k),
  )

  -- if the next item is a terminal, the look-ahead is this terminal
  pub terminal_next : (p : ℕ) (done : Forest) (a : Terminal) (xs : List Item) (os : List Open) (ws : List Lexeme) (t : Tree)
      → Completes g (open_at p done (item.Terminal a ∷ xs)) os ws t → ahead_of ws ≡ ahead.Terminal a
  terminal_next p done (Literal l) xs os ws t h = let n = literal_next p done l xs os ws t h in rw n.1
  terminal_next p done (Class c) xs os ws t h = let n = class_next p done c xs os ws t h in rw n.2

  -- a node that is read to its end is a tree
  pub close : (p : ℕ) (done : Forest) (os : List Open) (ws : List Lexeme) (t : Tree)
      → Completes g (open_at p done []) os ws t ↔ Continues g os (node p done) ws t
  close p done os ws t = (there, λ k. (none, ws, tt, refl, rw joined_none k))
    where
      there : Completes g (open_at p done []) os ws t → Continues g os (node p done) ws t
      there (none, vs, fit, e, k) = rw e (rw joined_none at k)
      there (more f fs, vs, fit, e, k) = absurd fit

  -- a tree c that comes next in the innermost open node becomes the last of the node's trees that are done
  pub child : (p : ℕ) (done : Forest) (xs : List Item) (os : List Open) (c : Tree) (ws : List Lexeme) (t : Tree)
      → Continues g (open_at p done xs ∷ os) c ws t ↔ Completes g (open_at p (joined done (more c none)) xs) os ws t
  child p done xs os c ws t = (
    λ h. let (fs, vs, fit, e, k) = h in (fs, vs, fit, e, rw joined_assoc k),
    λ h. let (fs, vs, fit, e, k) = h in (fs, vs, fit, e, rw joined_assoc at k),
  )

  -- the grammar of the tables has no conflict, so two trees of the same words are the same
  pub free : (tables : Choices) → FitsGrammar g tables → HasNoConflict g
  free tables fits i j x c =
      let one = (fits c.one.left x i).1 (c.one, c.first_is, refl, c.one_predicts) in
      let two = (fits c.one.left x j).1 (c.other, c.second_is, cc, c.other_predicts) in
      let equal : i ≡ j = cc in
      omega (arith, c.earlier)

  pub one_parse : (tables : Choices) → FitsGrammar g tables → (ws : List Lexeme) (t u : Tree) → IsTreeWith g ws t
      → IsTreeWith g ws u → t ≡ u
  one_parse tables fits ws t u p r = unique.one_tree g (free tables fits) t u p.tree r.tree (cc)
