-- The values that are lent to a rule are well.
use Rattle.passrun.proofs.Common
use Common.{ℕ, zero, suc, List, [], ◌∷◌, All, get_or, slice_index, All-head, All-tail, Value, IsWell, AreWell}

pub one_well : (xs : List Value) (i : ℕ) (d : Value) → All IsWell xs → IsWell d → IsWell (get_or xs i d)
one_well [] i d h w = w
one_well (x ∷ xs) zero d h w = All-head IsWell x xs h
one_well (x ∷ xs) (suc i) d h w = one_well xs i d (All-tail IsWell x xs h) w

pub are_well : (n : ℕ) (xs : List Value) (slots : List ℕ) (d : Value) → All IsWell xs → IsWell d
    → AreWell n (λ k. get_or xs (slice_index slots k) d)
are_well n xs slots d h w = record { well = λ k less. one_well xs (slice_index slots k) d h w }
