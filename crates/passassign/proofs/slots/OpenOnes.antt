-- The attributes without a pass, as they are found in a table.
use Rattle.passassign.proofs.Common
use Common.{ℕ, ◌≡◌, ◌<◌, ◌+◌, ◌/◌, ◌%◌, ◌⊎◌, ◌↔◌, ◌++◌, true, false, List, [], ◌∷◌, length, inl, inr, refl, ap, arith, cases_Bool}
use Common.{cases_eq, cases_lt, Has, state_at, slot_of, is_open, State, Absent, Open, Assigned, slice_get_within}
use Common.{get_or-eq_default}
use Rattle.passassign.specs.Answer.{IsInDeclaredOrder}
use Rattle.passassign.proofs.slots.Lists.{get_push_cases, has_kept, has_put, has_cases}

pub open_is : (x : State) → is_open x ≡ true → x ≡ Open
open_is Absent e = cc
open_is Open e = refl
open_is (Assigned p) e = cc

pub is_no_open : (x : State) → is_open x ≡ false → x ≡ Open → ⊥
is_no_open Absent e f = cc
is_no_open Open e f = cc
is_no_open (Assigned p) e f = cc

-- a list has the attributes without a pass before slot i of a table
pub record AreOpenOnes (states : List State) (i : ℕ) (xs : List (ℕ × ℕ)) : Type 0 where
  pub all : (s a : ℕ) → Has xs (s, a) ↔ ((a < 16) × (slot_of s a < i) × (state_at states (slot_of s a) ≡ Open))
  pub ordered : IsInDeclaredOrder xs

before : (x : ℕ × ℕ) (i : ℕ) → x.1 < 16 → slot_of x.0 x.1 < i → (x.0 < i / 16) ⊎ ((x.0 ≡ i / 16) × (x.1 < i % 16))
before x i lt less = elim (cases_lt x.0 (i / 16)) [ inl l ↦ inl l | inr m ↦ inr (omega arith, omega arith) ]

slot_split : (s a i : ℕ) → a < 16 → slot_of s a ≡ i → (i / 16 ≡ s) × (i % 16 ≡ a)
slot_split s a i lt e = (omega arith, omega arith)

found : (states : List State) (i : ℕ) (xs : List (ℕ × ℕ)) → state_at states i ≡ Open → AreOpenOnes states i xs
    → AreOpenOnes states (i + 1) (xs ++ (i / 16, i % 16) ∷ [])
found states i xs is h = record { all = λ s a. (there s a, in_it s a); ordered = ordered }
  where
    there : (s a : ℕ) → Has (xs ++ (i / 16, i % 16) ∷ []) (s, a)
        → (a < 16) × (slot_of s a < i + 1) × (state_at states (slot_of s a) ≡ Open)
    there s a m = elim (has_cases xs (i / 16, i % 16) (s, a) m) [
      | inl old ↦ (let o = (h.all s a).0 old in (o.0, omega arith, o.2))
      | inr new ↦ (
          let q : i / 16 ≡ s = ap (λ (x : ℕ × ℕ). x.0) new in
          let r : i % 16 ≡ a = ap (λ (x : ℕ × ℕ). x.1) new in
          let e : slot_of s a ≡ i = omega arith in
          (omega arith, omega arith, rw e is))
    ]

    in_it : (s a : ℕ) → (a < 16) × (slot_of s a < i + 1) × (state_at states (slot_of s a) ≡ Open)
        → Has (xs ++ (i / 16, i % 16) ∷ []) (s, a)
    in_it s a m = elim (cases_eq (slot_of s a) i) [
      | inl e ↦ (
          let p = slot_split s a i m.0 e in rw (← p.0, ← p.1) (has_put xs (i / 16, i % 16)))
      | inr e ↦ has_kept xs (i / 16, i % 16) (s, a) ((h.all s a).1 (m.0, omega arith, m.2))
    ]

    ordered : IsInDeclaredOrder (xs ++ (i / 16, i % 16) ∷ [])
    ordered j k x y ex ey lt = elim (get_push_cases xs (i / 16, i % 16) y k ey) [
      | inl oldy ↦ elim (get_push_cases xs (i / 16, i % 16) x j ex) [
        | inl oldx ↦ h.ordered j k x y oldx oldy lt
        | inr newx ↦ absurd (omega (arith, slice_get_within xs k y oldy))
      ]
      | inr newy ↦ elim (get_push_cases xs (i / 16, i % 16) x j ex) [
        | inl oldx ↦ (
            let o = (h.all x.0 x.1).0 (j, oldx) in rw (← newy.1) (before x i o.0 o.1))
        | inr newx ↦ absurd (omega arith)
      ]
    ]

passed : (states : List State) (i : ℕ) (xs : List (ℕ × ℕ)) → (state_at states i ≡ Open → ⊥) → AreOpenOnes states i xs
    → AreOpenOnes states (i + 1) xs
passed states i xs no_open h = record {
  all = λ s a. (
    (λ m. let o = (h.all s a).0 m in (o.0, omega arith, o.2)),
    (λ m. elim (cases_eq (slot_of s a) i) [
      | inl e ↦ absurd (no_open (rw e at m.2))
      | inr e ↦ (h.all s a).1 (m.0, omega arith, m.2)
    ]),
  );
  ordered = h.ordered;
}

pub open_more : (states : List State) (i : ℕ) (st : State) (xs ys : List (ℕ × ℕ)) → st ≡ state_at states i
    → (is_open st ≡ true → ys ≡ xs ++ (i / 16, i % 16) ∷ []) → (is_open st ≡ false → ys ≡ xs) → AreOpenOnes states i xs
    → AreOpenOnes states (i + 1) ys
open_more states i st xs ys is yes_open none h = elim (cases_Bool (is_open st)) [
  | inl e ↦ rw (yes_open e) (let now = open_is st e in found states i xs (cc) h)
  | inr e ↦ rw (none e) (passed states i xs (λ o. is_no_open st e cc) h)
]

pub open_within : (states : List State) (k : ℕ) → state_at states k ≡ Open → k < length states
open_within states k e = elim (cases_lt k (length states)) [
  | inl lt ↦ lt
  | inr le ↦ cc (get_or-eq_default states Absent le)
]
