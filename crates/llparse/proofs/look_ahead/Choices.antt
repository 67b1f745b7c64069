-- The choices of one look-ahead.
use Rattle.llparse.proofs.Common
use Common.{ℕ, ◌+◌, ◌≡◌, ◌<◌, ◌≤◌, ◌⊎◌, Bool, true, false, List, Option, Some, None, length, slice_get, set, refl, inl, inr}
use Common.{arith, cases_eq, false≢true, same_Some, Production, choice_at, AreEarliestFrom, AreConflicting, IsLeastFrom}
use Common.{IsMarkedOf, is_marked, Pair}
use Rattle.std.proofs.lemmas.List.{get_or-set_other, get_or-set_same}

module _ (qs : List Production) (marks : List Bool) where
  -- a number from i on is i, or comes after it
  from_cases : (i j : ℕ) → i ≤ j → (j ≡ i) ⊎ (i + 1 ≤ j)
  from_cases i j le = elim (cases_eq j i) [
    | inl same ↦ inl same
    | inr other ↦ inr (omega arith)
  ]

  -- a production is of one symbol
  same_symbol : (i s t : ℕ) → IsMarkedOf qs marks s i → IsMarkedOf qs marks t i → s ≡ t
  same_symbol i s t h k =
      let same : h.0 ≡ k.0 = same_Some h.0 k.0 (cc) in cc

  -- if no conflicting pair begins with production i, the least pair from i + 1 on is the least from i on
  least_on : (i : ℕ) → ((b : ℕ) → AreConflicting qs marks i b → ⊥) → (pair : Option Pair) → IsLeastFrom qs marks (i + 1) pair
      → IsLeastFrom qs marks i pair
  least_on i no_pair None least = λ a b le conflict_with. elim (from_cases i a le) [
    | inl same ↦ no_pair b (rw same at conflict_with)
    | inr more ↦ least a b more conflict_with
  ]
  least_on i no_pair (Some p) least = (
    omega (arith, least.0),
    least.1,
    λ a b le conflict_with. elim (from_cases i a le) [
      | inl same ↦ absurd (no_pair b (rw same at conflict_with))
      | inr more ↦ least.2 a b more conflict_with
    ],
  )

  module _ (i : ℕ) (q : Production) (is : slice_get qs i ≡ Some q) (marked : is_marked marks i ≡ true) where
    this : IsMarkedOf qs marks q.left i
    this = (q, is, refl, marked)

    pub put_chosen : (choices : List (Option ℕ)) → q.left < length choices → AreEarliestFrom qs marks (i + 1) choices
        → AreEarliestFrom qs marks i (set choices q.left (Some i))
    put_chosen choices lt old = record {
      chosen = λ s k e. elim (cases_eq s q.left) [
        | inl same ↦
            let equal : i ≡ k = cc (get_or-set_same choices q.left (Some i) None lt) in
            (omega arith, rw (← equal, same) this, λ j le h. omega arith)
        | inr other ↦
            let r = old.chosen s k (cc (get_or-set_other choices q.left s (Some i) None other)) in (
              omega (arith, r.0),
              r.1,
              λ j le h. elim (from_cases i j le) [
                | inl same ↦ absurd (other (same_symbol i s q.left (rw same at h) this))
                | inr more ↦ r.2 j more h
              ],
            )
      ];
      none = λ s k e le h. elim (cases_eq s q.left) [
        | inl same ↦
            let here : Some i ≡ None = cc (get_or-set_same choices q.left (Some i) None lt) in
            cc
        | inr other ↦ elim (from_cases i k le) [
          | inl same ↦ other (same_symbol i s q.left (rw same at h) this)
          | inr more ↦ old.none s k (cc (get_or-set_other choices q.left s (Some i) None other)) more h
        ]
      ];
    }

    -- if this production is the first of a conflicting pair, the second is of its symbol
    second_of : (b : ℕ) → AreConflicting qs marks i b → IsMarkedOf qs marks q.left b
    second_of b conflict_with = rw (same_symbol i conflict_with.1.0 q.left conflict_with.1.1 this) at conflict_with.1.2

    pub put_pair : (choices : List (Option ℕ)) (r : ℕ) → choice_at choices q.left ≡ Some r
        → AreEarliestFrom qs marks (i + 1) choices → IsLeastFrom qs marks i (Some (record { first = i; second = r }))
    put_pair choices r e old =
        let k = old.chosen q.left r e in (
          omega arith,
          (omega (arith, k.0), (q.left, this, k.1)),
          λ a b le conflict_with. elim (from_cases i a le) [
            | inl same ↦
                let at_i = rw same at conflict_with in
                inr (cc, k.2 b (omega (arith, at_i.0)) (second_of b at_i))
            | inr more ↦ inl (omega (arith, k.0))
          ],
        )

    -- the least pair after this production: it and the choice so far for its symbol, if there is one, else the least pair so far
    pub pairs_conflict : (choices : List (Option ℕ)) (chosen : Option ℕ) (pair result : Option Pair)
        → chosen ≡ choice_at choices q.left
        → ((r : ℕ) → chosen ≡ Some r → result ≡ Some (record { first = i; second = r })) → (chosen ≡ None → result ≡ pair)
        → AreEarliestFrom qs marks (i + 1) choices → IsLeastFrom qs marks (i + 1) pair → IsLeastFrom qs marks i result
    pairs_conflict choices (Some r) pair result read some none old least = rw (some r refl) (put_pair choices r (cc) old)
    pairs_conflict choices None pair result read some none old least =
        rw (none refl) (least_on i (λ b both. old.none q.left b (cc) (omega (arith, both.0)) (second_of b both)) pair least)

  -- a production that is not marked changes neither the choices nor the least pair
  module _ (i : ℕ) (unmarked : is_marked marks i ≡ false) where
    not_this : (s k : ℕ) → k ≡ i → IsMarkedOf qs marks s k → ⊥
    not_this s k same h = false≢true (cc)

    pub skip_chosen : (choices : List (Option ℕ)) → AreEarliestFrom qs marks (i + 1) choices → AreEarliestFrom qs marks i choices
    skip_chosen choices old = record {
      chosen = λ s k e. let r = old.chosen s k e in (
        omega (arith, r.0),
        r.1,
        λ j le h. elim (from_cases i j le) [
          | inl same ↦ absurd (not_this s j same h)
          | inr more ↦ r.2 j more h
        ],
      );
      none = λ s k e le h. elim (from_cases i k le) [
        | inl same ↦ not_this s k same h
        | inr more ↦ old.none s k e more h
      ];
    }

    pub skip_pair : (pair : Option Pair) → IsLeastFrom qs marks (i + 1) pair → IsLeastFrom qs marks i pair
    skip_pair = least_on i (λ b both. not_this both.1.0 i refl both.1.1)
