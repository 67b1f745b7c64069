-- The index of an attribute's value in a row.
use Rattle.pass_rows.proofs.Common
use Common.{ℕ, zero, suc, ◌≡◌, ◌+◌, ◌-◌, ◌<◌, ◌≤◌, nat_le, if◌then◌else◌, List, ◌∷◌, refl, arith, nat_tests}
use Rattle.pass_rows.specs.layouts.Slots.{rank}

rank_more : (k p : ℕ) (ps : List ℕ) (a : ℕ) → (a ≡ 0 → ⊥) → rank k (p ∷ ps) a ≡ (if nat_le p k then 1 else 0) + rank k ps (a - 1)
rank_more k p ps zero some = absurd (some refl)
rank_more k p ps (suc a) some = let z : suc a - 1 ≡ a = omega arith in rw z

-- The rank of an attribute after the first one, if the first one has a value in the row.
pub rank_counted : (k p : ℕ) (ps : List ℕ) (a r : ℕ) → (a ≡ 0 → ⊥) → p ≤ k → r ≡ rank k ps (a - 1) → r + 1 ≡ rank k (p ∷ ps) a
rank_counted k p ps a r some le is = grind (arith, nat_tests, rank_more k p ps a some)

-- The rank of an attribute after the first one, if the first one has no value in the row.
pub rank_passed : (k p : ℕ) (ps : List ℕ) (a r : ℕ) → (a ≡ 0 → ⊥) → k < p → r ≡ rank k ps (a - 1) → r ≡ rank k (p ∷ ps) a
rank_passed k p ps a r some less is = grind (arith, nat_tests, rank_more k p ps a some)
