-- Prefixes of lists that grow by one element, and stacks from their top.
use Rattle.llparse.proofs.Common.{◌≡◌, ℕ, zero, suc, ◌+◌, List, [], ◌∷◌, ◌++◌, take, drop, reverse, append_assoc, add-one}
use Rattle.std.proofs.lemmas.List.{reverse-append}

-- the prefix of i elements, with the next element, is the prefix of i + 1
prefix : {A : Type 0} (xs : List A) (i : ℕ) (x : A) (rest : List A) → drop i xs ≡ x ∷ rest → take (i + 1) xs ≡ take i xs ++ x ∷ []
prefix [] zero x rest e = absurd (cc)
prefix [] (suc i) x rest e = absurd (cc)
prefix (y ∷ ys) zero x rest e = let same : y ≡ x = cc in cc
prefix {A} (y ∷ ys) (suc i) x rest e = cc (add-one (suc i), add-one i, prefix ys i x rest e)

pub one_more : {A : Type 0} (xs : List A) (i : ℕ) (x : A) (rest others : List A) → drop i xs ≡ x ∷ rest
    → take (i + 1) xs ++ others ≡ take i xs ++ (x ∷ others)
one_more xs i x rest others e = cc (prefix xs i x rest e, append_assoc (take i xs) (x ∷ []) others)

-- a stack from its top, with one element pushed or popped
pub on_top : {A : Type 0} (less full : List A) (x : A) → full ≡ less ++ x ∷ [] → reverse full ≡ x ∷ reverse less
on_top less full x e = cc (reverse-append less (x ∷ []))
