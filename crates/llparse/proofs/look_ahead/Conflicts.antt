-- The list of all conflicts.
use Rattle.llparse.proofs.Common
use Common.{ℕ, ◌+◌, ◌≡◌, ◌<◌, ◌≤◌, ◌⊎◌, ◌↔◌, Bool, true, List, [], ◌∷◌, ◌++◌, Some, None, length, get_or}
use Common.{Contains, refl, subst, inl, inr, arith, cases_eq, false≢true, same_Some, slice_get_within, Contains-get_or}
use Common.{Production, Grammar, IsAccepted, IsProduction, IsConflict, IsKnownAhead, index_of, Ahead}
use Rattle.std.proofs.lemmas.Bool.{and_parts, cases_lt}
use Rattle.std.proofs.lemmas.List.Elements.{Contains-append_left, Contains-push, Contains-push_cases}
use Rattle.std.proofs.lemmas.List.Quantifiers.{all_pairs_push}
use Rattle.llparse.specs.declared.table.fault.TableFault.{TableFault}
use Rattle.llparse.specs.declared.table.fault.TableFault.TheVariants as table_fault
use Rattle.llparse.specs.table.Conflicts.{AreConflicts, AreConflictsBefore, AreMarks, IsBefore, IsBeforePair, IsLeastFor}
use Rattle.llparse.specs.table.Conflicts.{IsLeastIndex, IsLeastOfPair, has_both}
use Rattle.llparse.proofs.look_ahead.Columns.{predicts_known}
use Rattle.llparse.proofs.look_ahead.Edges.{contains_none}
use Rattle.llparse.proofs.look_ahead.Firsts.{index_below, same_ahead}

-- a pair before that of n and k + 1 is that of n and k, or comes before it
last_or_before : (a b n k : ℕ) → (a < n) ⊎ ((a ≡ n) × (b < k + 1)) → ((a ≡ n) × (b ≡ k)) ⊎ ((a < n) ⊎ ((a ≡ n) × (b < k)))
last_or_before a b n k (inl less) = inr (inl less)
last_or_before a b n k (inr same) = elim (cases_eq b k) [
  | inl last ↦ inl (same.0, last)
  | inr other ↦ inr (inr (same.0, omega (arith, same.1)))
]

module _ (g : Grammar) where
  -- the pair of a conflict before that of n and m, where m is beyond all productions, comes before that of n + 1 and n + 2
  row_before : (h : TableFault) (n m : ℕ) → length g.productions ≤ m → IsLeastOfPair g h
      → IsBeforePair h n m ↔ IsBeforePair h (n + 1) (n + 2)
  row_before (table_fault.Conflict symbol a b x) n m most is =
      let less = is.conflict.earlier in
      let below = slice_get_within g.productions b is.conflict.other is.conflict.second_is in
      (λ before. inl (grind arith), λ before. grind arith)
  row_before table_fault.NoMemory n m most is = absurd is

  all_before : (h : TableFault) (n k : ℕ) → length g.productions ≤ n → IsLeastOfPair g h → IsBeforePair h n k
  all_before (table_fault.Conflict symbol a b x) n k most is =
      let less = is.conflict.earlier in
      let below = slice_get_within g.productions b is.conflict.other is.conflict.second_is in
      inl (omega arith)
  all_before table_fault.NoMemory n k most is = is

  none_before : (h : TableFault) → IsLeastOfPair g h → IsBeforePair h 0 1 → ⊥
  none_before (table_fault.Conflict symbol a b x) is before = let less = is.conflict.earlier in grind arith
  none_before table_fault.NoMemory is before = is

  more_before : (h : TableFault) (n k : ℕ) → IsBeforePair h n k → IsBeforePair h n (k + 1)
  more_before (table_fault.Conflict symbol a b x) n k (inl less) = inl less
  more_before (table_fault.Conflict symbol a b x) n k (inr same) = inr (same.0, omega (arith, same.1))
  more_before table_fault.NoMemory n k before = before

  -- no conflict comes before the pair of 0 and 1
  pub no_conflicts : AreConflictsBefore g 0 1 []
  no_conflicts = record {
    exact = λ h. (λ c. absurd (contains_none h c), λ r. absurd (none_before h r.0 r.1));
    in_order = λ i j d lt within. absurd (omega arith);
  }

  -- the conflicts before the pair of n and m are those before the next row of pairs, if m is beyond all productions
  pub next_row : (n m : ℕ) (faults : List TableFault) → length g.productions ≤ m → AreConflictsBefore g n m faults
      → AreConflictsBefore g (n + 1) (n + 2) faults
  next_row n m faults most old = record {
    exact = λ h. (
      λ c. let r = (old.exact h).0 c in (r.0, (row_before h n m most r.0).0 r.1),
      λ r. (old.exact h).1 (r.0, (row_before h n m most r.0).1 r.1),
    );
    in_order = old.in_order;
  }

  pub all_conflicts : (n k : ℕ) (faults : List TableFault) → length g.productions ≤ n → AreConflictsBefore g n k faults
      → AreConflicts g faults
  all_conflicts n k faults most old = record {
    exact = λ h. (λ c. ((old.exact h).0 c).0, λ is. (old.exact h).1 (is, all_before h n k most is));
    in_order = old.in_order;
  }

module _ (g : Grammar) (ok : IsAccepted g) where
  known_at : (a b : ℕ) (x : Ahead) → IsConflict g a b x → IsKnownAhead g x
  known_at a b x c = predicts_known g ok a c.one x c.first_is c.one_predicts

  -- a pair has one least look-ahead
  one_least : (s t a b : ℕ) (x y : Ahead) → IsLeastFor g s a b x → IsLeastFor g t a b y → (s ≡ t) × (x ≡ y)
  one_least s t a b x y h k =
      let one : h.conflict.one ≡ k.conflict.one =
      same_Some h.conflict.one k.conflict.one (cc (h.conflict.first_is, k.conflict.first_is)) in (
        cc (h.of_symbol, k.of_symbol),
        same_ahead g ok x y (known_at a b x h.conflict) (known_at a b y k.conflict)
            (omega (arith, h.least y k.conflict, k.least x h.conflict)),
      )

  module _ (n k : ℕ) (faults : List TableFault) (old : AreConflictsBefore g n k faults) where
    module _ (s : ℕ) (x : Ahead) (new : IsLeastFor g s n k x) where
      abbrev this : TableFault
      this = table_fault.Conflict s n k x

      listed : (h : TableFault) → IsLeastOfPair g h → IsBeforePair h n (k + 1) → Contains (faults ++ this ∷ []) h
      listed (table_fault.Conflict t a b y) is before = elim (last_or_before a b n k before) [
        | inl same ↦
            let e = one_least s t n k x y new (rw (same.0, same.1) at is) in
            let equal : this ≡ table_fault.Conflict t a b y = cc (e.0, e.1, same.0, same.1) in
            subst (λ h. Contains (faults ++ this ∷ []) h) equal (Contains-push faults this)
        | inr earlier ↦
            Contains-append_left faults (this ∷ []) (table_fault.Conflict t a b y)
            ((old.exact (table_fault.Conflict t a b y)).1 (is, earlier))
      ]
      listed table_fault.NoMemory is before = absurd is

      -- a conflict of the pair is added
      pub conflict_added : AreConflictsBefore g n (k + 1) (faults ++ this ∷ [])
      conflict_added = record {
        exact = λ h. (
          λ c. elim (Contains-push_cases faults this h c) [
            | inl there ↦ let r = (old.exact h).0 there in (r.0, more_before g h n k r.1)
            | inr e ↦ subst (λ f. IsLeastOfPair g f × IsBeforePair f n (k + 1)) e (new, inr (refl, omega arith))
          ],
          λ r. listed h r.0 r.1,
        );
        in_order =
            all_pairs_push IsBefore faults this old.in_order
            (λ i d lt. ((old.exact (get_or faults i d)).0 (Contains-get_or faults i d lt)).1);
      }

    module _ (none : (s : ℕ) (x : Ahead) → IsLeastFor g s n k x → ⊥) where
      still_listed : (h : TableFault) → IsLeastOfPair g h → IsBeforePair h n (k + 1) → Contains faults h
      still_listed (table_fault.Conflict t a b y) is before = elim (last_or_before a b n k before) [
        | inl same ↦ absurd (none t y (rw (same.0, same.1) at is))
        | inr earlier ↦ (old.exact (table_fault.Conflict t a b y)).1 (is, earlier)
      ]
      still_listed table_fault.NoMemory is before = absurd is

      -- the pair has no conflict
      pub none_added : AreConflictsBefore g n (k + 1) faults
      none_added = record {
        exact = λ h. (λ c. let r = (old.exact h).0 c in (r.0, more_before g h n k r.1), λ r. still_listed h r.0 r.1);
        in_order = old.in_order;
      }

  -- the marks of the productions that look-aheads predict give the least look-ahead of two productions
  module _ (lists : List (List Bool)) (are : AreMarks g lists) (a b : ℕ) where
    both_at : (x : Ahead) → IsConflict g a b x → has_both (get_or lists (index_of (length g.literals) x) []) a b ≡ true
    both_at x c =
        let known = known_at a b x c in
        let marks = are.marks x known (index_below g ok x known) in
        rw ((marks a c.one c.first_is).1 c.one_predicts, (marks b c.other c.second_is).1 c.other_predicts) refl

    pub none_of_pair : IsLeastIndex lists a b None → (s : ℕ) (x : Ahead) → IsLeastFor g s a b x → ⊥
    none_of_pair none s x is =
        let known = known_at a b x is.conflict in
        let lt = index_below g ok x known in
        let no = none (index_of (length g.literals) x) (omega (arith, are.count)) in
        false≢true (cc (no, both_at x is.conflict))

    pub least_of_pair : (one other : Production) → IsProduction g a one → IsProduction g b other → a < b → one.left ≡ other.left
        → (i : ℕ) (x : Ahead) → IsLeastIndex lists a b (Some i) → IsKnownAhead g x → index_of (length g.literals) x ≡ i
        → IsLeastFor g one.left a b x
    least_of_pair one other first_is second_is less same i x least known at_i =
        let marks = are.marks x known (index_below g ok x known) in
        let both = and_parts _ _ (rw (← at_i) at least.1) in
        record {
          conflict = record {
            one = one;
            other = other;
            first_is = first_is;
            second_is = second_is;
            earlier = less;
            of_one_symbol = same;
            one_predicts = (marks a one first_is).0 both.0;
            other_predicts = (marks b other second_is).0 both.1;
          };
          of_symbol = refl;
          least = λ y c. elim (cases_lt (index_of (length g.literals) y) i) [
            | inl before ↦ absurd (false≢true (cc (least.2 (index_of (length g.literals) y) before, both_at y c)))
            | inr after ↦ omega arith
          ];
        }
