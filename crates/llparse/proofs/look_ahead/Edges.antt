-- Edges added to lists.
use Rattle.llparse.proofs.Common
use Common.{ℕ, zero, suc, Contains, ◌+◌, ◌≡◌, ◌<◌, ◌≤◌, ◌⊎◌, ◌↔◌, Bool, true, false, List, [], ◌∷◌, ◌++◌, length, get_or, take}
use Common.{drop, refl, inl, inr, arith, append_assoc, take_all, drop_all, drop_more, Item, starting_items, Adds, IsEdge, OfSome}
use Common.{Edge, is_nullable_item}
use Rattle.std.proofs.lemmas.List.{take_more, append-nil}
use Rattle.std.proofs.lemmas.List.Elements.{Contains-push_cases, Contains-append_left}
use Rattle.std.proofs.lemmas.List.Elements.{Contains-push}

pub contains_none : {X : Type 0} (x : X) → Contains [] x → ⊥
contains_none x h = omega (arith, h.1)

pub contains_here : {X : Type 0} (x : X) (xs : List X) → Contains (x ∷ xs) x
contains_here x xs = (0, omega arith, refl)

pub contains_there : {X : Type 0} (y : X) (xs : List X) (x : X) → Contains xs x → Contains (y ∷ xs) x
contains_there y xs x (i, lt, e) = (suc i, omega arith, e)

pub cons_cases : {X : Type 0} (y : X) (xs : List X) (x : X) → Contains (y ∷ xs) x → (y ≡ x) ⊎ Contains xs x
cons_cases y xs x (zero, lt, e) = inl e
cons_cases y xs x (suc i, lt, e) = inr (i, omega arith, e)

prefix_goes_on : (n : ℕ → Bool) (y : Item) (zs : List Item) → is_nullable_item n y ≡ true
    → starting_items n (y ∷ zs) ≡ y ∷ starting_items n zs
prefix_goes_on n y zs h = rw h refl

prefix_ends : (n : ℕ → Bool) (y : Item) (zs : List Item) → is_nullable_item n y ≡ false → starting_items n (y ∷ zs) ≡ y ∷ []
prefix_ends n y zs h = rw h refl

-- a nullable item is a starting item, and the starting items go on after it
pub prefix_step : (n : ℕ → Bool) (items : List Item) (at : ℕ) (d : Item) → at < length items
    → is_nullable_item n (get_or items at d) ≡ true → starting_items n items ≡ take at items ++ starting_items n (drop at items)
    → starting_items n items ≡ take (at + 1) items ++ starting_items n (drop (at + 1) items)
prefix_step n items at d lt h is =
    cc (
      drop_more items at d lt,
      prefix_goes_on n (get_or items at d) (drop (at + 1) items) h,
      append_assoc (take at items) (get_or items at d ∷ []) (starting_items n (drop (at + 1) items)),
      take_more items at d lt,
    )

-- an item that is not nullable is the last starting item
pub prefix_stop : (n : ℕ → Bool) (items : List Item) (at : ℕ) (d : Item) → at < length items
    → is_nullable_item n (get_or items at d) ≡ false → starting_items n items ≡ take at items ++ starting_items n (drop at items)
    → take (at + 1) items ≡ starting_items n items
prefix_stop n items at d lt h is =
    cc (take_more items at d lt, drop_more items at d lt, prefix_ends n (get_or items at d) (drop (at + 1) items) h)

-- all items are starting items
pub prefix_whole : (n : ℕ → Bool) (items : List Item) (at : ℕ) → length items ≤ at
    → starting_items n items ≡ take at items ++ starting_items n (drop at items)
    → take (length items) items ≡ starting_items n items
prefix_whole n items at most is =
    cc (take_all (length items) items (omega arith), drop_all at items most, append-nil (take at items), take_all at items most)

-- if what R relates to the first i elements was added, and then what it relates to the next one, all for i + 1 elements was added
pub adds_more : {X Y : Type 0} (R : X → Y → Type 0) (xs : List X) (i : ℕ) (d : X) (A B C : Y → Type 0) → i < length xs
    → Adds (OfSome R (take i xs)) A B → Adds (R (get_or xs i d)) B C → Adds (OfSome R (take (i + 1) xs)) A C
adds_more R xs i d A B C lt m n = record {
  kept = λ y h. n.kept y (m.kept y h);
  all = λ y h. elim (Contains-push_cases (take i xs) (get_or xs i d) h.0 (rw (← take_more xs i d lt) h.1)) [
    | inl old ↦ n.kept y (m.all y (h.0, old, h.2))
    | inr e ↦ n.all y (rw e h.2)
  ];
  only = λ y h. elim (n.only y h) [
    | inl old ↦ elim (m.only y old) [
      | inl older ↦ inl older
      | inr e ↦ inr (e.0, rw (take_more xs i d lt) (Contains-append_left (take i xs) (get_or xs i d ∷ []) e.0 e.1), e.2)
    ]
    | inr e ↦ inr (get_or xs i d, rw (take_more xs i d lt) (Contains-push (take i xs) (get_or xs i d)), e)
  ];
}

-- what was added to an empty list is all that the list has
pub noted_iff : {X Y : Type 0} (R : X → Y → Type 0) (xs : List X) (i : ℕ) (A B : Y → Type 0) → length xs ≤ i → ((y : Y) → A y → ⊥)
    → Adds (OfSome R (take i xs)) A B → (y : Y) → B y ↔ OfSome R xs y
noted_iff R xs i A B most none adds y = (
  λ h. elim (adds.only y h) [
    | inl a ↦ absurd (none y a)
    | inr k ↦ (k.0, rw (take_all i xs most) at k.1, k.2)
  ],
  λ k. adds.all y (k.0, rw (take_all i xs most) k.1, k.2),
)

pub adds_edge : (edges : List Edge) (from to : ℕ)
    → Adds (IsEdge from to) (Contains edges) (Contains (edges ++ record { from = from; to = to } ∷ []))
adds_edge edges from to = record {
  kept = λ e h. Contains-append_left edges _ e h;
  all = λ e h. rw (← h.tail, ← h.head) (Contains-push edges e);
  only = λ e h. elim (Contains-push_cases edges (record { from = from; to = to }) e h) [
    | inl old ↦ inl old
    | inr new ↦ inr (record { tail = cc; head = cc })
  ];
}

pub iff_on : {A B C : Type 0} → (A ↔ B) → (B ↔ C) → A ↔ C
iff_on f g = (λ a. g.0 (f.0 a), λ c. f.1 (g.1 c))
