-- A least assignment has the fewest passes.
use Rattle.passassign.proofs.Common
use Common.{ℕ, ◌≡◌, ◌≤◌, ◌⊎◌, inl, inr, List, [], Some, slice_get, length, arith, cases_lt, get_or_past, slice_get-get_or}
use Common.{get_or_from_slice_get, Has, Grammar, IsLegal, counterpart, IsLeast, passes_of, AreAtMost, IsGreatest}

-- a pass in rows is at most the bound of all their numbers
pub given_at_most : (rows : List (List ℕ)) (k s a p : ℕ) → AreAtMost k rows → slice_get (passes_of rows s) a ≡ Some p → p ≤ k
given_at_most rows k s a p most e = elim (cases_lt s (length rows)) [
  | inl lt ↦ most s (passes_of rows s) (slice_get-get_or rows s [] lt) a p e
  | inr le ↦ (let bad = rw (get_or_past rows s [] le) at e in cc)
]

pub least_fewest : (g : Grammar) (rows other : List (List ℕ)) (n k : ℕ) → IsLeast g (passes_of rows) → IsLegal g (passes_of other)
    → IsGreatest n rows → IsGreatest k other → n ≤ k
least_fewest g rows other n k least legal own greatest = go own.there
  where
    go : (n ≡ 0) ⊎ ((row : List ℕ) × Has rows row × Has row n) → n ≤ k
    go (inl e) = omega arith
    go (inr (row, (s, at), (a, has))) =
        let here = get_or_from_slice_get rows s row [] at in
        let mine : slice_get (passes_of rows s) a ≡ Some n = rw here has in
        let there = counterpart (passes_of rows s) (passes_of other s) a n (cc (least.legal.whole s, legal.whole s)) mine in
        let low = least.least (passes_of other) legal s a n there.0 mine there.1 in
        let high = given_at_most other k s a there.0 greatest.most there.1 in
        omega arith
