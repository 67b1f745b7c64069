-- The loops that read items count up, and `all_at` is a recursion that counts down: the two agree at each step.
use Rattle.std.proofs.Common.{◌≡◌, ℕ, suc, ◌+◌, ◌-◌, ◌<◌, List, [], ◌∷◌, ◌++◌, Some, ◌∙◌, refl, sym, arith}
use Rattle.ag_value.specs.declared.fault.ValueFault.{ValueFault}
use Rattle.ag_value.specs.declared.fault.ValueFault.TheVariants.{Malformed, NoMemory}
use Rattle.ag_value.specs.Reading.{Fails, Read, all_at}

-- one more item is read, and one fewer is left
pub goes_on : {A : Type 0} (item : List ℕ → Read A) (n i : ℕ) (prefix : List A) (bytes : List ℕ) (first : A) (rest : List ℕ)
    (whole : Read (List A)) → i < n → item bytes ≡ Some (first, rest)
    → all_at item (n - i) prefix bytes ≡ whole → all_at item (n - (i + 1)) (prefix ++ first ∷ []) rest ≡ whole
unfolding all_at
goes_on item n i prefix bytes first rest whole lt read so_far =
    let left : n - i ≡ suc (n - (i + 1)) = omega arith in
    sym (rw (left, read) refl) ∙ so_far

-- if the next item can't be read, neither can the list
pub stops : {A : Type 0} (item : List ℕ → Read A) (n i : ℕ) (prefix : List A) (bytes : List ℕ) (whole : Read (List A))
    (e : ValueFault) → i < n → Fails e (item bytes)
    → all_at item (n - i) prefix bytes ≡ whole → Fails e whole
unfolding all_at
stops item n i prefix bytes whole Malformed lt none so_far =
    let left : n - i ≡ suc (n - (i + 1)) = omega arith in
    sym so_far ∙ rw (left, none) refl
stops item n i prefix bytes whole NoMemory lt none so_far = tt
