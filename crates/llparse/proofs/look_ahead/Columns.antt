-- The invariants of filling the columns, and the properties of full columns.
use Rattle.llparse.proofs.Common
use Common.{ℕ, ◌+◌, ◌≡◌, ◌<◌, ◌≤◌, ◌⊎◌, ◌↔◌, Bool, true, false, List, [], ◌∷◌, ◌++◌, Option, Some, None, length, get_or}
use Common.{slice_get, refl, inl, inr, arith, cases_eq, get_or_append_left, get_or_push, length-map, get_or_from_slice_get, Item}
use Common.{Production, Terminal, Literal, Class, Grammar, IsAccepted, InFirst, of_production, InFirstOf, here, inside, later}
use Common.{InFollow, at_end, next, last, Predicts, IsConflict, HasNoConflict, IsKnownAhead, index_of, choice_at, AreEarliestFrom}
use Common.{ArePredicted, AreConflicting, IsLeastFrom, IsMarkedOf, rows, choice_of, is_known, Choices, FitsGrammar, IsChoice}
use Common.{IsLeastConflict, Ahead, Pair, element_at}
use Common.item
use Common.ahead
use Rattle.std.proofs.lemmas.Bool.Decides.{nat_tests}
use Rattle.std.proofs.lemmas.List.{map-append}
use Rattle.std.specs.Global.{Vec}
use Rattle.llparse.specs.table.Columns.{AreColumns, IsColumn, IsLeastAt, IsLeastBelow, IsLesserConflict, at_ahead}
use Rattle.llparse.specs.declared.table.filling.Conflict.{Conflict}
use Rattle.llparse.proofs.look_ahead.CanStart.{AreNamed}
use Rattle.llparse.proofs.look_ahead.Edges.{contains_here, contains_there}
use Rattle.llparse.proofs.look_ahead.Firsts.{known_terminal, named_in, index_below, same_ahead}
use Rattle.llparse.proofs.look_ahead.Follows.{rest_named}
use Rattle.llparse.proofs.Unique.{one_production}

module _ (g : Grammar) (x : Ahead) (marks : List Bool) (predicted : ArePredicted g x marks) where
  marked_iff : (s k : ℕ) → IsMarkedOf g.productions marks s k ↔ IsChoice g s x k
  marked_iff s k = (
    λ h. (h.0, h.1, h.2, (predicted k h.0 h.1).0 h.3),
    λ h. (h.0, h.1, h.2, (predicted k h.0 h.1).1 h.3),
  )

  pub column_is : (choices : List (Option ℕ)) → AreEarliestFrom g.productions marks 0 choices → IsColumn g x choices
  column_is choices first = record {
    chosen = λ s k e. let r = first.chosen s k e in
        ((marked_iff s k).0 r.1, λ j h. r.2 j (omega arith) ((marked_iff s j).1 h));
    none = λ s k e h. first.none s k e (omega arith) ((marked_iff s k).1 h);
  }

  conflict_of : (a b : ℕ) → AreConflicting g.productions marks a b → IsConflict g a b x
  conflict_of a b c =
      let h = c.1.1 in
      let k = c.1.2 in
      record {
        one = h.0;
        other = k.0;
        first_is = h.1;
        second_is = k.1;
        earlier = c.0;
        of_one_symbol = cc;
        one_predicts = (predicted a h.0 h.1).0 h.3;
        other_predicts = (predicted b k.0 k.1).0 k.3;
      }

  conflicting_of : (a b : ℕ) → IsConflict g a b x → AreConflicting g.productions marks a b
  conflicting_of a b c = (
    c.earlier,
    (
      c.one.left,
      (c.one, c.first_is, refl, (predicted a c.one c.first_is).1 c.one_predicts),
      (c.other, c.second_is, cc, (predicted b c.other c.second_is).1 c.other_predicts),
    ),
  )

  pub least_is : (pair : Option Pair) → IsLeastFrom g.productions marks 0 pair → IsLeastAt g x pair
  least_is None least = λ a b c. least a b (omega arith) (conflicting_of a b c)
  least_is (Some p) least = (conflict_of p.first p.second least.1, λ a b c. least.2 a b (omega arith) (conflicting_of a b c))

-- pairs in order of their firsts, then of their seconds, and triples that begin with them
not_after : {a b c d i j : ℕ} → (a < c) ⊎ ((a ≡ c) × (b ≤ d)) → i ≤ j
    → (a < c) ⊎ ((a ≡ c) × ((b < d) ⊎ ((b ≡ d) × (i ≤ j))))
not_after h k = grind arith

module _ (g : Grammar) where
  abbrev index : Ahead → ℕ
  index x = index_of (length g.literals) x

module _ (g : Grammar) (ok : IsAccepted g) where
  -- if P holds of the rows of the first n look-aheads, and of that of the next one, it holds of the rows of the first n + 1
  pub rows_more : {X : Type 0} (P : Ahead → List X → Type 0) (n : ℕ) (x : Ahead) (table : List (Vec X)) (v : Vec X)
      → length table ≡ n → IsKnownAhead g x → index g x ≡ n → P x v.items
      → ((y : Ahead) → IsKnownAhead g y → index g y < n → P y (get_or (rows table) (index g y) []))
      → (y : Ahead) → IsKnownAhead g y → index g y < n + 1 → P y (get_or (rows (table ++ v ∷ [])) (index g y) [])
  rows_more {X = X} P n x table v count known at_n this before = λ y k lt.
      let many : length (rows table) ≡ n = cc (length-map table (λ (w : Vec X). w.items)) in
      elim (cases_eq (index g y) n) [
        | inl same ↦ rw (
          map-append,
          get_or_push (rows table) v.items [] (index g y) (cc),
          same_ahead g ok y x k known (cc),
        ) this
        | inr other ↦
            rw (map-append, get_or_append_left (rows table) (v.items ∷ []) [] (index g y) (omega arith))
            (before y k (omega arith))
      ]

  module _ (n : ℕ) (x : Ahead) (known : IsKnownAhead g x) (at_n : index g x ≡ n) where
    this_or : (y : Ahead) → IsKnownAhead g y → index g y < n + 1 → (y ≡ x) ⊎ (index g y < n)
    this_or y k lt = elim (cases_eq (index g y) n) [
      | inl same ↦ inl (same_ahead g ok y x k known (cc))
      | inr other ↦ inr (omega arith)
    ]

    no_more : IsLeastBelow g n None → IsLeastAt g x None → IsLeastBelow g (n + 1) None
    no_more old new = λ a b y k lt c. elim (this_or y k lt) [
      | inl same ↦ new a b (rw same at c)
      | inr before ↦ old a b y k before c
    ]

    old_stays : (c : Conflict) → IsLeastBelow g n (Some c)
        → ((a b : ℕ) → IsConflict g a b x → (c.first < a) ⊎ ((c.first ≡ a) × (c.second ≤ b))) → IsLeastBelow g (n + 1) (Some c)
    old_stays c old later_ones = (
      old.0,
      omega (arith, old.1),
      λ a b y k lt d. elim (this_or y k lt) [
        | inl same ↦ let at_index : index g y ≡ n = cc in
            not_after (later_ones a b (rw same at d)) (omega (arith, old.1))
        | inr before ↦ old.2 a b y k before d
      ],
    )

    new_can_start : (p : Pair) → IsLeastAt g x (Some p)
        → ((a b : ℕ) (y : Ahead) → IsKnownAhead g y → index g y < n → IsConflict g a b y
        → (p.first < a) ⊎ ((p.first ≡ a) × (p.second < b))) → IsLeastBelow g (n + 1) (Some (at_ahead p x))
    new_can_start p new later_ones = (
      new.0,
      omega (arith, at_n),
      λ a b y k lt d. elim (this_or y k lt) [
        | inl same ↦ let at_index : index g x ≡ index g y = cc in
            not_after (new.1 a b (rw same at d)) (omega arith)
        | inr before ↦ let later = later_ones a b y k before d in grind arith
      ],
    )

    -- the least conflict at the first n look-aheads, and the least pair at the next one, give the least conflict at n + 1 of them
    pub least_more : (least : Option Conflict) (pair : Option Pair) (result : Option Conflict)
        → IsLesserConflict least pair x result → IsLeastBelow g n least → IsLeastAt g x pair → IsLeastBelow g (n + 1) result
    least_more None None result is old new = rw is (no_more old new)
    least_more None (Some p) result is old new = rw is (new_can_start p new (λ a b y k lt d. absurd (old a b y k lt d)))
    least_more (Some c) None result is old new = rw is (old_stays c old (λ a b d. absurd (new a b d)))
    least_more (Some c) (Some p) result (inl keeps) old new =
        rw keeps.0 (old_stays c old (λ a b d. let further = new.1 a b d in grind (arith, keeps.1)))
    least_more (Some c) (Some p) result (inr takes) old new =
        rw takes.0 (new_can_start p new (λ a b y k lt d. let further = old.2 a b y k lt d in grind (arith, takes.1)))

  -- a look-ahead that predicts a production is a literal of the grammar, a class, or the end
  mutual
    first_known : (s : ℕ) (a : Terminal) → InFirst g s a → IsKnownAhead g (ahead.Terminal a)
    first_known s a (of_production p q e l h) =
        first_of_known q.items a (λ y k. named_in g ok q y (element_at g.productions p q e) k) h

    first_of_known : (xs : List Item) (a : Terminal) → AreNamed g xs → InFirstOf g xs a
        → IsKnownAhead g (ahead.Terminal a)
    first_of_known [] a named h = elim h [ ]
    first_of_known (item.Terminal b ∷ xs) a named here =
        known_terminal g ok a (named (item.Terminal a) (contains_here (item.Terminal a) xs))
    first_of_known (item.Symbol s ∷ xs) a named (inside h) = first_known s a h
    first_of_known (item.Symbol s ∷ xs) a named (later k h) =
        first_of_known xs a (λ y m. named y (contains_there (item.Symbol s) xs y m)) h

  follow_known : (s : ℕ) (x : Ahead) → InFollow g s x → IsKnownAhead g x
  follow_known s x at_end = tt
  follow_known s x (next p q {a = a} xs ys e f h) =
      first_of_known ys a (rest_named g ok q xs ys (item.Symbol s) (element_at g.productions p q e) f) h
  follow_known s x (last p q xs ys e f k h) = follow_known q.left x h

  pub predicts_known : (p : ℕ) (q : Production) (x : Ahead) → slice_get g.productions p ≡ Some q → Predicts g q x
      → IsKnownAhead g x
  predicts_known p q (ahead.Terminal a) e (inl h) = first_known q.left a (of_production p q e refl h)
  predicts_known p q ahead.End e h = tt
  predicts_known p q (ahead.Terminal a) e (inr h) = follow_known q.left (ahead.Terminal a) h.1

  pub known_of : (x : Ahead) → is_known (length g.literals) x ≡ true → IsKnownAhead g x
  known_of (ahead.Terminal (Literal l)) h = grind (arith, nat_tests)
  known_of (ahead.Terminal (Class c)) h = grind (arith, nat_tests)
  known_of ahead.End h = tt

  of_known : (x : Ahead) → IsKnownAhead g x → is_known (length g.literals) x ≡ true
  of_known (ahead.Terminal (Literal l)) h = grind (arith, nat_tests)
  of_known (ahead.Terminal (Class c)) h = grind (arith, nat_tests)
  of_known ahead.End h = refl

  -- if there is no conflict at any look-ahead, the grammar has none
  pub free_of : IsLeastBelow g (length g.literals + 4) None → HasNoConflict g
  free_of none a b x c =
      let known = predicts_known a c.one x c.first_is c.one_predicts in
      none a b x known (index_below g ok x known) c

  pub least_of : (c : Conflict) (p : Production) (symbol : ℕ) → IsLeastBelow g (length g.literals + 4) (Some c)
      → symbol ≡ (get_or g.productions c.first p).left → IsLeastConflict g symbol c.first c.second c.ahead
  least_of c p symbol least is = record {
    conflict = least.0;
    of_symbol = cc (get_or_from_slice_get g.productions c.first least.0.one p least.0.first_is);
    least = λ a b y d. let known = predicts_known a d.one y d.first_is d.one_predicts in
        least.2 a b y known (index_below g ok y known) d;
  }

  -- full columns without a conflict fit the grammar
  module _ (t : Choices) (literals : t.literals ≡ length g.literals) (full : AreColumns g (length g.literals + 4) t.columns)
      (free : HasNoConflict g) where
    looked_up : (s : ℕ) (x : Ahead) → is_known t.literals x ≡ true
        → choice_of t s x ≡ choice_at (get_or t.columns (index g x) []) s
    looked_up s x h = rw (h, literals) refl

    column_at : (x : Ahead) → IsKnownAhead g x → IsColumn g x (get_or t.columns (index g x) [])
    column_at x known = full x known (index_below g ok x known)

    there : (s : ℕ) (x : Ahead) (k : ℕ) (b : Bool) → is_known t.literals x ≡ b → choice_of t s x ≡ Some k → IsChoice g s x k
    there s x k true h e = ((column_at x (known_of x (rw literals at h))).chosen s k (cc (looked_up s x h))).0
    there s x k false h e = let none = rw h at e in cc

    found : (s : ℕ) (x : Ahead) (k : ℕ) → IsChoice g s x k → (o : Option ℕ)
        → choice_at (get_or t.columns (index g x) []) s ≡ o → o ≡ Some k
    found s x k h None e = absurd ((column_at x (predicts_known k h.0 x h.1 h.3)).none s k e h)
    found s x k h (Some j) e =
        let other = ((column_at x (predicts_known k h.0 x h.1 h.3)).chosen s j e).0 in
        cc (one_production g free j k other.0 h.0 x other.1 h.1 (cc) other.3 h.3)

    back : (s : ℕ) (x : Ahead) (k : ℕ) → IsChoice g s x k → choice_of t s x ≡ Some k
    back s x k h =
        let test : is_known t.literals x ≡ true = rw literals (of_known x (predicts_known k h.0 x h.1 h.3)) in
        cc (looked_up s x test, found s x k h (choice_at (get_or t.columns (index g x) []) s) refl)

    pub fits : FitsGrammar g t
    fits s x k = (there s x k (is_known t.literals x) refl, back s x k)
