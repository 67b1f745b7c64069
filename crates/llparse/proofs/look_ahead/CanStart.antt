-- The look-aheads with which the items of a right side can start, item by item.
use Rattle.llparse.proofs.Common
use Common.{ℕ, Contains, ◌+◌, ◌≡◌, ◌<◌, ◌⊎◌, ◌↔◌, Bool, true, false, ◌&&◌, ◌||◌, List, [], ◌∷◌, ◌++◌, length, get_or, drop, refl}
use Common.{sym, inl, inr, arith, drop_more, Item, Terminal, Grammar, IsNamedItem, IsNullable, AreNullable, nothing, a_symbol}
use Common.{InFirstOf, here, inside, later, IsInFirstOf, can_start_in, all_nullable, OfRest, Adds, InFirstOfItem}
use Common.{is_nullable_item, Ahead}
use Common.item
use Common.ahead
use Rattle.llparse.proofs.look_ahead.Edges.{contains_here, contains_there}

-- `b || (n && c)`, as `can_start_in` computes at an item
starts_cases : (b n c : Bool) → (b || (n && c)) ≡ true → (b ≡ true) ⊎ ((n ≡ true) × (c ≡ true))
starts_cases b n c h = grind arith

-- if what `OfRest` relates to the items after index `at` was added, and then what it relates to the item there, all for the items
-- from `at` on was added
pub adds_rest : {Y : Type 0} (c : List Item → Bool) (R : Item → Y → Type 0) (items : List Item) (at following : ℕ) (d : Item)
    (flag : Bool) (A B C : Y → Type 0) → at < length items → following ≡ at + 1 → flag ≡ c (drop following items)
    → Adds (OfRest c R (drop following items)) A B → Adds (λ y. (flag ≡ true) × R (get_or items at d) y) B C
    → Adds (OfRest c R (drop at items)) A C
adds_rest c R items at following d flag A B C lt step is old new =
    let split : drop at items ≡ get_or items at d ∷ drop following items = rw step (drop_more items at d lt) in
    rw split (record {
      kept = λ y h. new.kept y (old.kept y h);
      all = λ y h. elim h [
        | inl one ↦ new.all y (cc, one.1)
        | inr rest ↦ new.kept y (old.all y rest)
      ];
      only = λ y h. elim (new.only y h) [
        | inl b ↦ elim (old.only y b) [
          | inl a ↦ inl a
          | inr rest ↦ inr (inr rest)
        ]
        | inr one ↦ inr (inl (cc, one.1))
      ];
    })

-- whether the items from one item on can start with the look-ahead, from whether those after it can (`flag`)
pub next_more : (b n : Item → Bool) (last : Bool) (items : List Item) (at following : ℕ) (d : Item) (flag : Bool)
    → at < length items → following ≡ at + 1 → flag ≡ can_start_in b n last (drop following items)
    → (b (get_or items at d) || (n (get_or items at d) && flag)) ≡ can_start_in b n last (drop at items)
next_more b n last items at following d flag lt step is = rw (is, step, drop_more items at d lt)

-- an item after which the rest has the property splits the list there, and the converse
pub rest_split : {Y : Type 0} (c : List Item → Bool) (R : Item → Y → Type 0) (items : List Item) (y : Y) → OfRest c R items y
    → (xs : List Item) × (z : Item) × (ys : List Item) × (items ≡ xs ++ z ∷ ys) × (c ys ≡ true) × R z y
rest_split c R [] y h = absurd h
rest_split c R (x ∷ items) y (inl one) = ([], x, items, refl, one.0, one.1)
rest_split c R (x ∷ items) y (inr rest) = let r = rest_split c R items y rest in
    (x ∷ r.0, r.1, r.2, cc, r.4, r.5)

pub rest_of_split : {Y : Type 0} (c : List Item → Bool) (R : Item → Y → Type 0) (items xs : List Item) (z : Item) (ys : List Item)
    (y : Y) → items ≡ xs ++ z ∷ ys → c ys ≡ true → R z y → OfRest c R items y
rest_of_split c R items [] z ys y e h r = rw e (inl (h, r))
rest_of_split c R items (x ∷ xs) z ys y e h r = rw e (inr (rest_of_split c R (xs ++ z ∷ ys) xs z ys y refl h r))

-- items that can start with the look-ahead can do so by themselves, or all are nullable and the look-ahead can come after them
pub next_cases : (b n : Item → Bool) (following : Bool) (xs : List Item) → can_start_in b n following xs ≡ true
    → (can_start_in b n false xs ≡ true) ⊎ ((all_nullable n xs ≡ true) × (following ≡ true))
next_cases b n following [] h = inr (refl, h)
next_cases b n following (x ∷ xs) h = grind (arith, next_cases b n following xs)

pub next_first : (b n : Item → Bool) (following : Bool) (xs : List Item) → can_start_in b n false xs ≡ true
    → can_start_in b n following xs ≡ true
next_first b n following [] h = cc
next_first b n following (x ∷ xs) h = grind (arith, next_first b n following xs)

pub next_after : (b n : Item → Bool) (following : Bool) (xs : List Item) → all_nullable n xs ≡ true → following ≡ true
    → can_start_in b n following xs ≡ true
next_after b n following [] h k = k
next_after b n following (x ∷ xs) h k = grind (arith, next_after b n following xs)

-- the items of a list are named
abbrev pub AreNamed : Grammar → List Item → Type 0
AreNamed g xs = (y : Item) → Contains xs y → IsNamedItem g y

module _ (g : Grammar) (n : ℕ → Bool) (known : (s : ℕ) → n s ≡ true ↔ IsNullable g s) where
  empty_nullable : (xs : List Item) → all_nullable (is_nullable_item n) xs ≡ true → AreNullable g xs
  empty_nullable [] h = nothing
  empty_nullable (item.Symbol s ∷ xs) h =
      let both : (n s ≡ true) × (all_nullable (is_nullable_item n) xs ≡ true) = grind arith in
      a_symbol ((known s).0 both.0) (empty_nullable xs both.1)
  empty_nullable (item.Terminal a ∷ xs) h = cc

  nullable_empty : (xs : List Item) → AreNullable g xs → all_nullable (is_nullable_item n) xs ≡ true
  nullable_empty [] nothing = refl
  nullable_empty (item.Terminal a ∷ xs) h = elim h [ ]
  nullable_empty (item.Symbol s ∷ xs) (a_symbol h k) = rw ((known s).1 h) (nullable_empty xs k)

  pub nullable_iff : (xs : List Item) → all_nullable (is_nullable_item n) xs ≡ true ↔ AreNullable g xs
  nullable_iff xs = (empty_nullable xs, nullable_empty xs)

  module _ (x : Ahead) (b : Item → Bool) (begins : (y : Item) → IsNamedItem g y → b y ≡ true ↔ InFirstOfItem g y x) where
    abbrev CanStart : List Item → Type 0
    CanStart xs = can_start_in b (is_nullable_item n) false xs ≡ true

    begun : (y : Item) (ys : List Item) (x' : Ahead) → InFirstOfItem g y x' → IsInFirstOf g (y ∷ ys) x'
    begun (item.Symbol s) ys (ahead.Terminal a) h = inside h
    begun (item.Symbol s) ys ahead.End h = absurd h
    begun (item.Terminal c) ys x' h = rw (← h) here

    begun_later : (y : Item) (ys : List Item) (x' : Ahead) → is_nullable_item n y ≡ true → IsInFirstOf g ys x'
        → IsInFirstOf g (y ∷ ys) x'
    begun_later (item.Symbol s) ys (ahead.Terminal a) h k = later ((known s).0 h) k
    begun_later (item.Symbol s) ys ahead.End h k = absurd k
    begun_later (item.Terminal c) ys x' h k = cc

    next_can_start : (xs : List Item) → AreNamed g xs → CanStart xs → IsInFirstOf g xs x
    next_can_start [] named h = cc
    next_can_start (y ∷ ys) named h =
        elim (starts_cases (b y) (is_nullable_item n y) (can_start_in b (is_nullable_item n) false ys) h) [
          | inl first ↦ begun y ys x ((begins y (named y (contains_here y ys))).0 first)
          | inr both ↦ begun_later y ys x both.0 (next_can_start ys (λ z k. named z (contains_there y ys z k)) both.1)
        ]

    first_next : (xs : List Item) (a : Terminal) → x ≡ ahead.Terminal a → AreNamed g xs → InFirstOf g xs a → CanStart xs
    first_next [] a is named h = elim h [ ]
    first_next (item.Terminal c ∷ ys) a is named here =
        rw ((begins (item.Terminal c) (named (item.Terminal c) (contains_here (item.Terminal c) ys))).1 (sym is))
    first_next (item.Symbol s ∷ ys) a is named (inside h) =
        rw ((begins (item.Symbol s) (named (item.Symbol s) (contains_here (item.Symbol s) ys))).1 (rw is h))
    first_next (item.Symbol s ∷ ys) a is named (later k h) =
        let nullable = (known s).1 k in
        let rest = first_next ys a is (λ z k. named z (contains_there (item.Symbol s) ys z k)) h in
        grind arith

    can_start_next : (xs : List Item) (x' : Ahead) → x ≡ x' → AreNamed g xs → IsInFirstOf g xs x' → CanStart xs
    can_start_next xs (ahead.Terminal a) is named h = first_next xs a is named h
    can_start_next xs ahead.End is named h = absurd h

    pub can_start_iff : (xs : List Item) → AreNamed g xs → CanStart xs ↔ IsInFirstOf g xs x
    can_start_iff xs named = (next_can_start xs named, can_start_next xs x refl named)
