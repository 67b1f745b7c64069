-- The first list of a production that does not agree: the lists before it agree.
use Rattle.planchecker.proofs.Common
use Common.{ℕ, ◌≡◌, ◌+◌, ◌-◌, List, Some, slice_get, inl, inr, arith, Production, Passes, Instr, ListAgrees, IsFirstList}
use Common.{IsFirstWrong}
use Rattle.planchecker.proofs.Loops.{Prefix, first_not}

-- a list with a first wrong index does not agree
not_list : (m : Passes) (q : Production) (k : ℕ) (xs : List Instr) (n : ℕ) → IsFirstWrong m q k xs n → ListAgrees m q k xs → ⊥
not_list m q k xs n wrong list = elim wrong.wrong [ inl h ↦ h.1 (xs, list, λ i x lt e. e) | inr h ↦ h.1 list ]

pub first_list_of : (m : Passes) (q : Production) (lists : List (List Instr)) (i : ℕ) (xs : List Instr) (n : ℕ)
    → slice_get lists i ≡ Some xs → Prefix (λ i. ListAgrees m q (i + 1)) lists i → IsFirstWrong m q (i + 1) xs n
    → IsFirstList m q lists (i + 1) n
first_list_of m q lists i xs n is before wrong =
    let same : i + 1 - 1 ≡ i = omega arith in
    record {
      list = xs;
      positive = omega arith;
      occurs = rw same is;
      first = rw same (first_not (λ i. ListAgrees m q (i + 1)) lists i xs is before (not_list m q (i + 1) xs n wrong));
      wrong = wrong;
    }
