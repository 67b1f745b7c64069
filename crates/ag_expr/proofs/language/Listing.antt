-- Listing occurrences one after the other results in the distinct ones.
use Rattle.ag_expr.proofs.Common
use Common.{◌≡◌, Bool, true, not, List, [], ◌∷◌, ◌++◌, filter, refl, sym, ◌∙◌, append_assoc, append-nil, arith, nat_tests}
use Common.{list_any-append, bytes_eq-Decides, Occ, is_of, distinct_occurrences, listed_with_all}
use Rattle.std.specs.List.{list_any}

abbrev pub is_listed : List Occ → Occ → Bool
is_listed xs y = list_any (is_of y.place y.attr) xs

-- the occurrences that are not listed
abbrev unlisted : List Occ → List Occ → List Occ
unlisted xs ys = filter (λ y. not (is_listed xs y)) ys

-- of two occurrences with the same place and name, either both are listed or neither is
pub listed_alike : (xs : List Occ) (x y : Occ) → is_of y.place y.attr x ≡ true → is_listed xs x ≡ is_listed xs y
listed_alike xs x y h = let same = bytes_eq-Decides x.attr y.attr in let place : x.place ≡ y.place = grind (arith, nat_tests) in
    let attr : x.attr ≡ y.attr = grind arith in rw (place, attr) refl

-- if x is listed already, the list ys without the occurrences of x's place and name has the same unlisted ones as ys
unlisted-old : (xs : List Occ) (x : Occ) (ys : List Occ) → is_listed xs x ≡ true
    → unlisted xs (filter (λ y. not (is_of y.place y.attr x)) ys) ≡ unlisted xs ys
unlisted-old xs x [] old = refl
unlisted-old xs x (y ∷ ys) old = let more = unlisted-old xs x ys in let alike = listed_alike xs x y in grind (arith, more, alike)

-- two lists have the same occurrences: ys without x's place and name, unlisted in xs, and ys, unlisted in xs followed by x
unlisted-new : (xs : List Occ) (x : Occ) (ys : List Occ)
    → unlisted xs (filter (λ y. not (is_of y.place y.attr x)) ys) ≡ unlisted (xs ++ x ∷ []) ys
unlisted-new xs x [] = refl
unlisted-new xs x (y ∷ ys) = let more = unlisted-new xs x ys in grind (arith, list_any-append, more)

listed_is : (seen xs : List Occ) → listed_with_all seen xs ≡ seen ++ unlisted seen (distinct_occurrences xs)
listed_is seen [] = sym (append-nil seen)
listed_is seen (x ∷ xs) =
    let here = listed_is seen xs in
    let one_more = listed_is (seen ++ x ∷ []) xs in
    grind (arith, unlisted-old, unlisted-new, append_assoc)

none_listed : (ys : List Occ) → unlisted [] ys ≡ ys
none_listed [] = refl
none_listed (y ∷ ys) = cc (none_listed ys)

pub listed_are_different : (xs : List Occ) → listed_with_all [] xs ≡ distinct_occurrences xs
listed_are_different xs = listed_is [] xs ∙ none_listed (distinct_occurrences xs)
