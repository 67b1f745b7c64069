-- A list of additions grows at its end.
use Rattle.std.proofs.Common.{ℕ, ◌≡◌, List, [], ◌∷◌, ◌++◌, Some, slice_get, length, get_or, refl, sym, inl, inr}
use Rattle.std.proofs.Common.{arith}
use Rattle.std.proofs.lemmas.Option.{slice_get_within}
use Rattle.closure.specs.Additions.{IsAdded, IsAddedBefore, IsReason, AreInOrder}
use Rattle.closure.specs.declared.addition.Addition.{Addition}
use Rattle.closure.specs.declared.addition.Reason.{Reason}
use Rattle.closure.specs.declared.addition.Reason.TheVariants as reason
use Rattle.closure.specs.declared.clause.Clause.{Clause}
use Rattle.closure.proofs.Positions.{get_push_cases, get_push_end, get_push_front}

pub added_more : (xs : List Addition) (y : Addition) (t : ℕ) → IsAdded xs t → IsAdded (xs ++ y ∷ []) t
added_more xs y t h = (h.0, h.1, get_push_front xs y h.1 h.0 h.2, h.3)

pub added_here : (xs : List Addition) (y : Addition) → IsAdded (xs ++ y ∷ []) y.number
added_here xs y = (length xs, y, get_push_end xs y, refl)

-- a reason whose body has only numbers with the property P has only numbers with the property Q, if P implies Q
pub reason_more : (clauses : List Clause) (seeds : List ℕ) (P Q : ℕ → Type 0) → ((t : ℕ) → P t → Q t) → (n : ℕ) (r : Reason)
    → IsReason clauses seeds P n r → IsReason clauses seeds Q n r
reason_more clauses seeds P Q more n (reason.Seed i) h = h
reason_more clauses seeds P Q more n (reason.Clause p) h = (h.0, h.1, h.2, λ k d lt. more (get_or h.0.body k d) (h.3 k d lt))

before_more : (xs : List Addition) (y : Addition) (n t : ℕ) → IsAddedBefore xs n t → IsAddedBefore (xs ++ y ∷ []) n t
before_more xs y n t h = (h.0, h.1, h.2, get_push_front xs y h.1 h.0 h.3, h.4)

before_end : (xs : List Addition) (y : Addition) (t : ℕ) → IsAdded xs t → IsAddedBefore (xs ++ y ∷ []) (length xs) t
before_end xs y t h = (h.0, h.1, slice_get_within xs h.0 h.1 h.2, get_push_front xs y h.1 h.0 h.2, h.3)

-- a list in order stays in order if a number that it doesn't have is added, with a reason
pub order_more : (clauses : List Clause) (seeds : List ℕ) (xs : List Addition) (y : Addition) → (IsAdded xs y.number → ⊥)
    → IsReason clauses seeds (IsAdded xs) y.number y.reason → AreInOrder clauses seeds xs
    → AreInOrder clauses seeds (xs ++ y ∷ [])
order_more clauses seeds xs y fresh why order = record { once = once; reasoned = reasoned }
  where
    is_new : (i : ℕ) (x : Addition) → slice_get xs i ≡ Some x → x.number ≡ y.number → ⊥
    is_new i x e same = fresh (i, x, e, same)

    once : (i j : ℕ) (x z : Addition) → slice_get (xs ++ y ∷ []) i ≡ Some x → slice_get (xs ++ y ∷ []) j ≡ Some z
        → x.number ≡ z.number → i ≡ j
    once i j x z e f same = elim (get_push_cases xs y x i e) [
      | inl old ↦ elim (get_push_cases xs y z j f) [
        | inl older ↦ order.once i j x z old older same
        | inr last ↦ absurd (is_new i x old (rw last.1 same))
      ]
      | inr last ↦ elim (get_push_cases xs y z j f) [
        | inl older ↦ absurd (is_new j z older (rw last.1 (sym same)))
        | inr again ↦ (let a = last.0 in let b = again.0 in omega arith)
      ]
    ]

    reasoned : (i : ℕ) (x : Addition) → slice_get (xs ++ y ∷ []) i ≡ Some x
        → IsReason clauses seeds (IsAddedBefore (xs ++ y ∷ []) i) x.number x.reason
    reasoned i x e = elim (get_push_cases xs y x i e) [
      | inl old ↦ reason_more clauses seeds (IsAddedBefore xs i) (IsAddedBefore (xs ++ y ∷ []) i)
          (before_more xs y i) x.number x.reason (order.reasoned i x old)
      | inr last ↦ rw (last.0, ← last.1)
          (reason_more clauses seeds (IsAdded xs) (IsAddedBefore (xs ++ y ∷ []) (length xs))
          (before_end xs y) y.number y.reason why)
    ]
