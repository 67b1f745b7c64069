-- A pass by marks of the struck attributes.
use Rattle.passassign.proofs.Common
use Common.{ℕ, ◌≡◌, inl, inr, List, [], Some, None, Bool, true, false, cases_Bool, Grammar, direction_of, Strike, IsStruckBy}
use Common.{AreGood, Partial, IsAttribute, AssignsOnlyAttributes, IsOpen, AreFinished, IsPass, AreMarks, pass_after}

pub pass_by_marks : (g : Grammar) (k : ℕ) (m after : Partial) (xs : List Strike) (hit : ℕ → ℕ → Bool) → AssignsOnlyAttributes g m
    → AssignsOnlyAttributes g after → AreGood g (direction_of k) (IsOpen g m) [] xs
    → AreFinished g (direction_of k) (IsOpen g m) xs → AreMarks hit xs
    → ((s a : ℕ) → IsAttribute g s a → after s a ≡ pass_after k (m s a) (hit s a)) → IsPass g k m after xs
pass_by_marks g k m after xs hit known known_after good finished marks is =
    record { good = good; finished = finished; kept = kept; gained = gained; left = left }
  where
    kept : (s a p : ℕ) → m s a ≡ Some p → after s a ≡ Some p
    kept s a p e = rw (is s a (known s a p e), e)

    now : (s a : ℕ) → IsAttribute g s a → m s a ≡ None → (b : Bool) → hit s a ≡ b → after s a ≡ pass_after k None b
    now s a i e b h = rw (is s a i, e, h)

    gained : (s a p : ℕ) → m s a ≡ None → after s a ≡ Some p → IsAttribute g s a × (p ≡ k) × (IsStruckBy xs s a → ⊥)
    gained s a p e f = elim (cases_Bool (hit s a)) [
      | inl h ↦ cc (now s a (known_after s a p f) e true h)
      | inr h ↦ (known_after s a p f, cc (now s a (known_after s a p f) e false h), λ i. cc ((marks s a).1 i))
    ]

    left : (s a : ℕ) → IsOpen g m s a → after s a ≡ None → IsStruckBy xs s a
    left s a i f = elim (cases_Bool (hit s a)) [ inl h ↦ (marks s a).0 h | inr h ↦ cc (now s a i.0 i.1 false h) ]
