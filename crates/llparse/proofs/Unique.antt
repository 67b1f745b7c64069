-- A grammar without a conflict has at most one tree of a list of words.
use Rattle.llparse.proofs.Common
use Common.{ap, ◌≡◌, ◌<◌, ℕ, List, [], ◌∷◌, ◌++◌, ◌⊎◌, inl, inr, refl, sym, append_assoc, arith, slice_get, Item, Production}
use Common.{Literal, Class, Grammar, stored_items, IsProduction, literal_text, Tree, leaf, node, Forest, none, more, Fits}
use Common.{FitsAll, Lexeme, yield_along, yield_of, Ahead, IsNullable, by_production, AreNullable, nothing, a_symbol, InFirst}
use Common.{of_production, InFirstOf, here, inside, later, InFollow, at_end, next, last, Predicts, HasNoConflict, ahead_of}
use Common.item
use Rattle.ag_grammar.specs.grammars.Yield.{right_side}

module _ (g : Grammar) where
  abbrev Tr : ℕ → Tree → Type 0
  Tr s t = Fits g (item.Symbol s) t

  abbrev Trs : Forest → List Item → Type 0
  Trs ts xs = FitsAll g (stored_items xs) ts

  abbrev words : Tree → List Lexeme
  words = yield_of g

  abbrev all_words : Forest → List Item → List Lexeme
  all_words ts xs = yield_along g xs ts

  pub items_are : (p : ℕ) (q : Production) → IsProduction g p q → right_side (slice_get g.productions p) ≡ q.items
  items_are p q e = cc

  -- The words ws begin with a terminal in FIRST of the symbol s, or there are no words and s is nullable. By `begins` this holds
  -- of the words of each tree of s.
  abbrev Begins : ℕ → List Lexeme → Type 0
  Begins s ws = (IsNullable g s × (ws ≡ [])) ⊎ ((w : Lexeme) × (rest : List Lexeme) × (ws ≡ w ∷ rest) × InFirst g s w.0)

  abbrev BeginAs : List Item → List Lexeme → Type 0
  BeginAs xs ws = (AreNullable g xs × (ws ≡ [])) ⊎ ((w : Lexeme) × (rest : List Lexeme) × (ws ≡ w ∷ rest) × InFirstOf g xs w.0)

  lift : (p : ℕ) (q : Production) (s : ℕ) → IsProduction g p q → q.left ≡ s → (ws : List Lexeme) → BeginAs q.items ws
      → Begins s ws
  lift p q s get l ws (inl (n, e)) = inl (by_production p q get l n, e)
  lift p q s get l ws (inr (w, rest, e, f)) = inr (w, rest, e, of_production p q get l f)

  follow_on : (s : ℕ) (xs : List Item) (us vs : List Lexeme) → Begins s us → BeginAs xs vs
      → BeginAs (item.Symbol s ∷ xs) (us ++ vs)
  follow_on s xs us vs (inl (n, e)) (inl (m, f)) = inl (a_symbol n m, cc)
  follow_on s xs us vs (inl (n, e)) (inr (w, rest, f, h)) = inr (w, rest, cc, later n h)
  follow_on s xs us vs (inr (w, rest, e, f)) b = inr (w, rest ++ vs, cc, inside f)

  mutual
    pub begins : (t : Tree) (s : ℕ) → Tr s t → Begins s (words t)
    begins (leaf c lex) s i = absurd i
    begins (node p ts) s (q, get, l, fits) =
        let same : all_words ts q.items ≡ words (node p ts) = cc (items_are p q get) in
        rw same at (lift p q s get l (all_words ts q.items) (begin_as ts q.items fits))

    pub begin_as : (ts : Forest) (xs : List Item) → Trs ts xs → BeginAs xs (all_words ts xs)
    begin_as none [] fit = inl (nothing, refl)
    begin_as (more t ts) [] fit = absurd fit
    begin_as none (item.Symbol s ∷ xs) fit = absurd fit
    begin_as (more t ts) (item.Symbol s ∷ xs) fit =
        follow_on s xs (words t) (all_words ts xs) (begins t s fit.0) (begin_as ts xs fit.1)
    begin_as none (item.Terminal (Class c) ∷ xs) fit = absurd fit
    begin_as (more (leaf d lex) ts) (item.Terminal (Class c) ∷ xs) fit =
        inr ((Class d, lex), all_words ts xs, refl, rw fit.0.0 here)
    begin_as (more (node p us) ts) (item.Terminal (Class c) ∷ xs) fit = absurd fit.0
    begin_as none (item.Terminal (Literal l) ∷ xs) fit = inr ((Literal l, literal_text g l), all_words none xs, refl, here)
    begin_as (more t ts) (item.Terminal (Literal l) ∷ xs) fit =
        inr ((Literal l, literal_text g l), all_words (more t ts) xs, refl, here)

  -- p is the number of the production q. `follows`: if words r begin with a look-ahead in FOLLOW of the left side, the words of
  -- the rest of the right side, followed by r, begin with a look-ahead in FOLLOW of the symbol before this rest.
  abbrev At : ℕ → Production → Type 0
  At p q = IsProduction g p q

  pub follows : (p : ℕ) (q : Production) → At p q → (xs ys : List Item) (s : ℕ) → q.items ≡ xs ++ item.Symbol s ∷ ys
      → (ts : Forest) → Trs ts ys → (r : List Lexeme) → InFollow g q.left (ahead_of r)
      → InFollow g s (ahead_of (all_words ts ys ++ r))
  follows p q get xs ys s e ts fit r f = elim (begin_as ts ys fit) [
    | inl empty ↦ rw empty.1 (last p q xs ys get e empty.0 f)
    | inr begun ↦ rw begun.2 (next p q xs ys get e begun.3)
  ]

  pub predicted : (p : ℕ) (q : Production) → At p q → (ts : Forest) → Trs ts q.items → (r : List Lexeme)
      → InFollow g q.left (ahead_of r) → Predicts g q (ahead_of (all_words ts q.items ++ r))
  predicted p q get ts fit r f = elim (begin_as ts q.items fit) [
    | inl empty ↦ rw empty.1 (inr (empty.0, f))
    | inr begun ↦ rw begun.2 (inl begun.3)
  ]

  -- without a conflict, productions of one symbol that the same look-ahead predicts are the same
  not_before : HasNoConflict g → (p r : ℕ) (q s : Production) (x : Ahead) → IsProduction g p q → IsProduction g r s
      → q.left ≡ s.left → Predicts g q x → Predicts g s x → p < r → ⊥
  not_before free p r q s x getq gets left one other less = free p r x (record {
    one = q;
    other = s;
    first_is = getq;
    second_is = gets;
    earlier = less;
    of_one_symbol = left;
    one_predicts = one;
    other_predicts = other;
  })

  pub one_production : HasNoConflict g → (p r : ℕ) (q s : Production) (x : Ahead) → IsProduction g p q → IsProduction g r s
      → q.left ≡ s.left → Predicts g q x → Predicts g s x → p ≡ r
  one_production free p r q s x getq gets left one other =
      let below = not_before free p r q s x getq gets left one other in
      let above = not_before free r p s q x gets getq (sym left) other one in
      grind arith

  module _ (free : HasNoConflict g) where
    mutual
      pub same_tree : (s : ℕ) (t u : Tree) → Tr s t → Tr s u → (r z : List Lexeme) → InFollow g s (ahead_of r)
          → InFollow g s (ahead_of z) → words t ++ r ≡ words u ++ z → (t ≡ u) × (r ≡ z)
      same_tree s (leaf c lex) u i j r z f h e = absurd i
      same_tree s (node p ts) (leaf d lex) i j r z f h e = absurd j
      same_tree s (node p ts) (node k us) (q, get, l, fits) (q2, get2, l2, fits2) r z f h e =
          let fq : InFollow g q.left (ahead_of r) = rw l f in
          let fq2 : InFollow g q2.left (ahead_of z) = rw l2 h in
          let e2 : all_words ts q.items ++ r ≡ all_words us q2.items ++ z = cc (items_are p q get, items_are k q2 get2) in
          let two : Predicts g q2 (ahead_of (all_words ts q.items ++ r)) = rw e2 (predicted k q2 get2 us fits2 z fq2) in
          let same : p ≡ k =
          one_production free p k q q2 (ahead_of (all_words ts q.items ++ r)) get get2 (cc)
          (predicted p q get ts fits r fq) two in
          let equal : q2 ≡ q = cc in
          let both_same =
          same_forest p q get [] q.items refl ts us fits (rw equal at fits2) r z fq (rw equal at fq2) (cc) in
          (cc, both_same.1)

      same_forest : (p : ℕ) (q : Production) → At p q → (xs ys : List Item) → q.items ≡ xs ++ ys → (ts us : Forest) → Trs ts ys
          → Trs us ys → (r z : List Lexeme) → InFollow g q.left (ahead_of r) → InFollow g q.left (ahead_of z)
          → all_words ts ys ++ r ≡ all_words us ys ++ z → (ts ≡ us) × (r ≡ z)
      same_forest p q get xs [] e none none i j r z f h w = (refl, w)
      same_forest p q get xs [] e none (more u us) i j r z f h w = absurd j
      same_forest p q get xs [] e (more t ts) us i j r z f h w = absurd i
      same_forest p q get xs (item.Symbol s ∷ ys) e none us i j r z f h w = absurd i
      same_forest p q get xs (item.Symbol s ∷ ys) e (more t ts) none i j r z f h w = absurd j
      same_forest p q get xs (item.Symbol s ∷ ys) e (more t ts) (more u us) i j r z f h w =
          let split : words t ++ (all_words ts ys ++ r) ≡ words u ++ (all_words us ys ++ z) =
          cc (append_assoc (words t) (all_words ts ys) r, append_assoc (words u) (all_words us ys) z) in
          let one =
          same_tree s t u i.0 j.0 (all_words ts ys ++ r) (all_words us ys ++ z) (follows p q get xs ys s e ts i.1 r f)
          (follows p q get xs ys s e us j.1 z h) split in
          let rest = same_forest p q get (xs ++ item.Symbol s ∷ []) ys (rw append_assoc e) ts us i.1 j.1 r z f h one.1 in
          (cc, rest.1)
      same_forest p q get xs (item.Terminal (Class c) ∷ ys) e none us i j r z f h w = absurd i
      same_forest p q get xs (item.Terminal (Class c) ∷ ys) e (more (node k vs) ts) us i j r z f h w = absurd i.0
      same_forest p q get xs (item.Terminal (Class c) ∷ ys) e (more (leaf d lex) ts) none i j r z f h w = absurd j
      same_forest p q get xs (item.Terminal (Class c) ∷ ys) e (more (leaf d lex) ts) (more (node k vs) us) i j r z f h w =
          absurd j.0
      same_forest p q get xs (item.Terminal (Class c) ∷ ys) e (more (leaf d lex) ts) (more (leaf b mex) us) i j r z f h w =
          let rest =
          same_forest p q get (xs ++ item.Terminal (Class c) ∷ []) ys (rw append_assoc e) ts us i.1 j.1 r z f h (cc) in
          let heads : (Class d, lex) ≡ (Class b, mex) = cc in
          let texts_same : lex ≡ mex = ap (λ (y : Lexeme). y.1) heads in
          let classes : d ≡ b = cc (i.0.0, j.0.0) in
          (cc rest.0, rest.1)
      same_forest p q get xs (item.Terminal (Literal l) ∷ ys) e ts us i j r z f h w =
          same_forest p q get (xs ++ item.Terminal (Literal l) ∷ []) ys (rw append_assoc e) ts us i j r z f h (cc)

    pub one_tree : (t u : Tree) → Tr g.start t → Tr g.start u → words t ≡ words u → t ≡ u
    one_tree t u i j e = (same_tree g.start t u i j [] [] at_end at_end (cc)).0
