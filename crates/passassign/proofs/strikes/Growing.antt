-- A list of strikes grows at its end.
use Rattle.passassign.proofs.Common
use Common.{ℕ, ◌⊎◌, inl, inr, List, [], ◌∷◌, ◌++◌, Grammar, Direction, Strike, Attributes, IsStruckBy, IsGood, AreGood, Partial}
use Common.{IsOpen}
use Rattle.passassign.proofs.strikes.Reasons.{good_more}

-- one more strike x, which is good after the strikes `struck`, at the end of a list that has these
module _ (g : Grammar) (d : Direction) (candidate : Attributes) (x : Strike) (is : candidate x.symbol x.attr)
    (struck : List Strike) (one : IsGood g d candidate struck x) where
  grow : (earlier xs : List Strike) → AreGood g d candidate earlier xs → (IsStruckBy earlier x.symbol x.attr → ⊥)
      → (IsStruckBy xs x.symbol x.attr → ⊥) → ((s a : ℕ) → IsStruckBy struck s a → IsStruckBy earlier s a ⊎ IsStruckBy xs s a)
      → AreGood g d candidate earlier (xs ++ x ∷ [])
  grow earlier [] good new fresh h =
      (is, new, good_more one (λ s a i. i) (λ s a i. elim (h s a i) [ inl e ↦ e | inr bad ↦ absurd bad ]), tt)
  grow earlier (y ∷ ys) (first, new_y, is_y, more) new fresh h = (
    first,
    new_y,
    is_y,
    grow (y ∷ earlier) ys more (λ i. elim i [ inl e ↦ fresh (inl e) | inr e ↦ new e ]) (λ i. fresh (inr i))
        (λ s a i. elim (h s a i) [ inl e ↦ inl (inr e) | inr (inl e) ↦ inl (inl e) | inr (inr e) ↦ inr e ]),
  )

pub strikes_grow : (g : Grammar) (d : Direction) (m : Partial) (xs : List Strike) (x : Strike) → AreGood g d (IsOpen g m) [] xs
    → IsOpen g m x.symbol x.attr → (IsStruckBy xs x.symbol x.attr → ⊥) → IsGood g d (IsOpen g m) xs x
    → AreGood g d (IsOpen g m) [] (xs ++ x ∷ [])
strikes_grow g d m xs x good is fresh one = grow g d (IsOpen g m) x is xs one [] xs good (λ i. i) fresh (λ s a i. inr i)
