-- The values up to a pass: their number, and that they are well.
use Rattle.treefile.proofs.Common
use Common.{◌≡◌, ℕ, suc, ◌≤◌, List, [], ◌∷◌, length, All, refl, arith, inl, inr, leb_tells, nat_tests, All-cons, All-nil, Value}
use Common.{IsWell, WellAt, values_up_to}
use Rattle.treefile.specs.records.Listed.{count_up_to}

-- the number of values of a record
pub count_of_values : (k : ℕ) (ps : List ℕ) (e : ℕ → Value) → length (values_up_to k ps e) ≡ count_up_to k ps
count_of_values k [] e = refl
count_of_values k (p ∷ ps) e = grind (arith, nat_tests, count_of_values k ps (λ a. e (suc a)))

-- this number is at most the number of attributes
pub few_counted : (k : ℕ) (ps : List ℕ) → count_up_to k ps ≤ length ps
few_counted k [] = omega arith
few_counted k (p ∷ ps) = grind (arith, nat_tests, few_counted k ps)

pub values_few : (k : ℕ) (ps : List ℕ) (values : ℕ → Value) → length (values_up_to k ps values) ≤ length ps
values_few k ps values = omega (arith, count_of_values k ps values, few_counted k ps)

-- values that are well up to a pass are well in the record
pub values_well : (k : ℕ) (ps : List ℕ) (values : ℕ → Value) → WellAt (λ p. p ≤ k) ps values values
    → All IsWell (values_up_to k ps values)
values_well k [] values well = All-nil IsWell
values_well k (p ∷ ps) values well =
    let later = values_well k ps (λ a. values (suc a)) (λ a. well (suc a)) in
    elim (leb_tells p k) [
      | inl within ↦
          rw within.0
          (All-cons IsWell (values 0) (values_up_to k ps (λ a. values (suc a))) (well 0 p refl within.1) later)
      | inr past ↦ rw past.0 later
    ]
