-- Laws of the list of all conflicts.
use Rattle.llparse.proofs.Common
use Common.{ℕ, zero, suc, ◌+◌, ◌≡◌, ◌<◌, ◌≤◌, ◌⊎◌, ◌↔◌, List, [], ◌∷◌, Some, length, get_or, slice_get, Contains, refl, ap, sym}
use Common.{inl, inr, arith, same_Some, Grammar, IsConflict, HasNoConflict, index_of, Ahead, IsLeastConflict}
use Rattle.std.proofs.lemmas.Bool.{cases_lt, cases_order}
use Rattle.std.specs.Prelude.{AllPairs}
use Rattle.llparse.specs.declared.table.fault.TableFault.{TableFault}
use Rattle.llparse.specs.declared.table.fault.TableFault.TheVariants as table_fault
use Rattle.llparse.specs.table.Conflicts.{AreConflicts, IsBefore, IsLeastFor, IsLeastOfPair}
use Rattle.llparse.specs.table.Tables.{IsNotAfter}
use Rattle.llparse.proofs.look_ahead.Edges.{contains_here, contains_none, contains_there, cons_cases}

not_both_before : (f h : TableFault) → IsBefore f h → IsBefore h f → ⊥
not_both_before (table_fault.Conflict s a b x) (table_fault.Conflict t c d y) one other = grind arith
not_both_before (table_fault.Conflict s a b x) table_fault.NoMemory one other = one
not_both_before table_fault.NoMemory (table_fault.Conflict t c d y) one other = one
not_both_before table_fault.NoMemory table_fault.NoMemory one other = one

-- the head of a list in order is before the others
head_before : (x : TableFault) (xs : List TableFault) → AllPairs IsBefore (x ∷ xs) → (f : TableFault) → Contains xs f → IsBefore x f
head_before x xs sorted f (k, lt, e) =
    let before : IsBefore x (get_or xs k f) = sorted zero (suc k) f (omega arith) (omega arith) in
    rw e at before

rest_sorted : (x : TableFault) (xs : List TableFault) → AllPairs IsBefore (x ∷ xs) → AllPairs IsBefore xs
rest_sorted x xs sorted i j d lt within = sorted (suc i) (suc j) d (omega arith) (omega arith)

-- the heads of two lists in order with the same elements are the same
same_heads : (x y : TableFault) (xs ys : List TableFault) → AllPairs IsBefore (x ∷ xs) → AllPairs IsBefore (y ∷ ys)
    → Contains (y ∷ ys) x → Contains (x ∷ xs) y → x ≡ y
same_heads x y xs ys sorted also there back = elim (cons_cases y ys x there) [
  | inl e ↦ sym e
  | inr later ↦ elim (cons_cases x xs y back) [
    | inl e ↦ e
    | inr further ↦ absurd (not_both_before x y (head_before x xs sorted y further) (head_before y ys also x later))
  ]
]

-- an element of the rest of a list in order is in the rest of another one with the same head
in_rest : (x y : TableFault) (xs ys : List TableFault) → x ≡ y → AllPairs IsBefore (x ∷ xs) → (f : TableFault) → Contains xs f
    → Contains (y ∷ ys) f → Contains ys f
in_rest x y xs ys same sorted f there h = elim (cons_cases y ys f h) [
  | inl e ↦
      let before : IsBefore x f = head_before x xs sorted f there in
      let itself : IsBefore f f = rw (same, e) at before in
      absurd (not_both_before f f itself itself)
  | inr rest ↦ rest
]

-- two lists in order with the same elements are equal
same_in_order : (xs ys : List TableFault) → AllPairs IsBefore xs → AllPairs IsBefore ys
    → ((f : TableFault) → Contains xs f → Contains ys f) → ((f : TableFault) → Contains ys f → Contains xs f) → xs ≡ ys
same_in_order [] [] sorted also there back = refl
same_in_order [] (y ∷ ys) sorted also there back = absurd (contains_none y (back y (contains_here y ys)))
same_in_order (x ∷ xs) [] sorted also there back = absurd (contains_none x (there x (contains_here x xs)))
same_in_order (x ∷ xs) (y ∷ ys) sorted also there back =
    let heads : x ≡ y =
    same_heads x y xs ys sorted also (there x (contains_here x xs)) (back y (contains_here y ys)) in
    cc (
      heads,
      same_in_order xs ys (rest_sorted x xs sorted) (rest_sorted y ys also)
          (λ f h. in_rest x y xs ys heads sorted f h (there f (contains_there x xs f h)))
          (λ f h. in_rest y x ys xs (sym heads) also f h (back f (contains_there y ys f h))),
    )

pub one_list_of_conflicts : (g : Grammar) (xs ys : List TableFault) → AreConflicts g xs → AreConflicts g ys → xs ≡ ys
one_list_of_conflicts g xs ys one other =
    same_in_order xs ys one.in_order other.in_order (λ f h. (other.exact f).1 ((one.exact f).0 h))
    (λ f h. (one.exact f).1 ((other.exact f).0 h))

module _ (g : Grammar) where
  abbrev index : Ahead → ℕ
  index x = index_of (length g.literals) x

  -- if two productions have no least look-ahead, they have no conflict
  no_conflict : (a b : ℕ) → ((s : ℕ) (x : Ahead) → IsLeastFor g s a b x → ⊥) → (n : ℕ) (y : Ahead) → index y < n
      → IsConflict g a b y → ⊥
  no_conflict a b none zero y lt c = omega (arith, lt)
  no_conflict a b none (suc n) y lt c = none c.one.left y (record {
    conflict = c;
    of_symbol = refl;
    least = λ z d. elim (cases_lt (index z) (index y)) [
      | inl before ↦ absurd (no_conflict a b none n z (omega arith) d)
      | inr after ↦ after
    ];
  })

  none_least : HasNoConflict g → (f : TableFault) → IsLeastOfPair g f → ⊥
  none_least free (table_fault.Conflict s a b x) is = free a b x is.conflict
  none_least free table_fault.NoMemory is = is

  pub free_if_empty : AreConflicts g [] → HasNoConflict g
  free_if_empty are a b x c =
      no_conflict a b (λ s y is. contains_none _ ((are.exact (table_fault.Conflict s a b y)).1 is)) (index x + 1) x
      (omega arith) c

  pub no_conflicts_if_free : HasNoConflict g → AreConflicts g []
  no_conflicts_if_free free = record {
    exact = λ f. (λ h. absurd (contains_none f h), λ is. absurd (none_least free f is));
    in_order = λ i j d lt within. absurd (omega arith);
  }

  module _ (s a b : ℕ) (x : Ahead) (rest : List TableFault) (are : AreConflicts g (table_fault.Conflict s a b x ∷ rest)) where
    abbrev head : TableFault
    head = table_fault.Conflict s a b x

    -- the pair of a conflict is not before that of the head
    from_head : (t c d : ℕ) (y : Ahead) → IsLeastFor g t c d y → (a < c) ⊎ ((a ≡ c) × (b ≤ d))
    from_head t c d y is = elim (cons_cases head rest _ ((are.exact (table_fault.Conflict t c d y)).1 is)) [
      | inl e ↦
          let first : a ≡ c = cc in
          let second : b ≡ d = cc in
          inr (first, omega (arith, second))
      | inr later ↦
          let before = head_before head rest are.in_order (table_fault.Conflict t c d y) later in
          grind (arith, before)
    ]

    not_before : (c d : ℕ) (y : Ahead) → IsConflict g c d y → (c < a) ⊎ ((c ≡ a) × (d < b)) → ⊥
    not_before c d y conflict_at before =
        no_conflict c d (λ t z is. let after = from_head t c d z is in grind (arith, before, after)) (index y + 1) y (omega arith)
        conflict_at

    least : IsLeastFor g s a b x
    least = (are.exact head).0 (contains_here head rest)

    after_head : (c d : ℕ) (y : Ahead) → IsConflict g c d y → IsNotAfter g a b x c d y
    after_head c d y conflict_at = elim (cases_order a c) [
      | inl first ↦ elim (cases_order b d) [
        | inl second ↦ inr (first, inr (second, least.least y (rw (first, second) conflict_at)))
        | inr (inl less) ↦ inr (first, inl less)
        | inr (inr greater) ↦ absurd (not_before c d y conflict_at (inr (sym first, greater)))
      ]
      | inr (inl less) ↦ inl less
      | inr (inr greater) ↦ absurd (not_before c d y conflict_at (inl greater))
    ]

    pub head_least : IsLeastConflict g s a b x
    head_least = record { conflict = least.conflict; of_symbol = least.of_symbol; least = after_head }

  pub least_for : (s a b : ℕ) (x : Ahead) → IsLeastConflict g s a b x → IsLeastFor g s a b x
  least_for s a b x is = record {
    conflict = is.conflict;
    of_symbol = is.of_symbol;
    least = λ y d. let after = is.least a b y d in grind (arith, after);
  }

  -- no conflict of the list is before the least one
  least_not_after : (s a b : ℕ) (x : Ahead) → IsLeastConflict g s a b x → (f : TableFault) → IsLeastOfPair g f
      → IsBefore f (table_fault.Conflict s a b x) → ⊥
  least_not_after s a b x is (table_fault.Conflict t c d y) also before =
      let after = is.least c d y also.conflict in
      grind (arith, after, before)
  least_not_after s a b x is table_fault.NoMemory also before = also

  pub least_first : (faults : List TableFault) (s a b : ℕ) (x : Ahead) → AreConflicts g faults → IsLeastConflict g s a b x
      → slice_get faults 0 ≡ Some (table_fault.Conflict s a b x)
  least_first [] s a b x are is =
      absurd (contains_none _ ((are.exact (table_fault.Conflict s a b x)).1 (least_for s a b x is)))
  least_first (f ∷ fs) s a b x are is =
      elim (cons_cases f fs _ ((are.exact (table_fault.Conflict s a b x)).1 (least_for s a b x is))) [
        | inl e ↦ ap Some e
        | inr later ↦
            absurd (least_not_after s a b x is f ((are.exact f).0 (contains_here f fs))
            (head_before f fs are.in_order (table_fault.Conflict s a b x) later))
      ]

  pub first_least : (faults : List TableFault) (s a b : ℕ) (x : Ahead) → AreConflicts g faults
      → slice_get faults 0 ≡ Some (table_fault.Conflict s a b x) → IsLeastConflict g s a b x
  first_least [] s a b x are e = cc
  first_least (f ∷ fs) s a b x are e = let is : f ≡ table_fault.Conflict s a b x = same_Some f _ e in
      head_least s a b x fs (rw is at are)

pub empty_if_free : (g : Grammar) → AreConflicts g [] ↔ HasNoConflict g
empty_if_free g = (free_if_empty g, no_conflicts_if_free g)

pub head_is_least : (g : Grammar) (faults : List TableFault) (s a b : ℕ) (x : Ahead) → AreConflicts g faults
    → slice_get faults 0 ≡ Some (table_fault.Conflict s a b x) ↔ IsLeastConflict g s a b x
head_is_least g faults s a b x are = (first_least g faults s a b x are, least_first g faults s a b x are)
