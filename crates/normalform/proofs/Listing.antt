-- The faults that a search finds, step by step.
use Rattle.normalform.proofs.Common
use Common.{ℕ, suc, ◌+◌, ◌-◌, ◌<◌, ◌≡◌, ◌∙◌, Bool, true, false, List, [], ◌∷◌, ◌++◌, None, refl, sym, ap}
use Common.{arith, append_assoc, append-nil, length, get_or, drop, map, flat_map, fold, slice_get, range_with_len}
use Common.{NormalFault, Check, first_wrong, checks_along, get_or-map, length-map}
use Common.{◌⊎◌, inl, inr, eq-eqb, nat_eq, nat_tests, length-append, false≢true}
use Rattle.std.proofs.lemmas.List.{drop_more}
use Rattle.normalform.specs.faults.FaultList.{Found, SaysIfNone, wrong, kept, is_empty, is_full, after_checks}

-- the faults of the failing checks of a concatenated list
pub wrong_append : (xs ys : List Check) → wrong (xs ++ ys) ≡ wrong xs ++ wrong ys
wrong_append [] ys = refl
wrong_append ((f, true) ∷ xs) ys = wrong_append xs ys
wrong_append ((f, false) ∷ xs) ys = let rest = wrong_append xs ys in grind arith

-- the fault of the first failing check is the head of the list
pub first_is_head : (cs : List Check) → first_wrong cs ≡ slice_get (wrong cs) 0
first_is_head [] = refl
first_is_head ((f, true) ∷ cs) = first_is_head cs
first_is_head ((f, false) ∷ cs) = refl

-- no check fails exactly if no check is the first that fails
pub none_wrong : (cs : List Check) → wrong cs ≡ [] → first_wrong cs ≡ None
none_wrong cs h = first_is_head cs ∙ ap (λ fs. slice_get fs 0) h

pub wrong_none : (cs : List Check) → first_wrong cs ≡ None → wrong cs ≡ []
wrong_none cs h = go (wrong cs) (sym (first_is_head cs) ∙ h)
  where
    go : (fs : List NormalFault) → slice_get fs 0 ≡ None → fs ≡ []
    go [] e = refl
    go (f ∷ fs) e = absurd (cc)

kept_none : (b : Bool) (old : List NormalFault) → kept b old [] ≡ old
kept_none false old = append-nil old
kept_none true [] = refl
kept_none true (f ∷ fs) = refl

kept_more : (b : Bool) (old xs ys : List NormalFault) → kept b (kept b old xs) ys ≡ kept b old (xs ++ ys)
kept_more false old xs ys = append_assoc old xs ys
kept_more true [] [] ys = refl
kept_more true [] (x ∷ xs) ys = refl
kept_more true (f ∷ fs) xs ys = refl

kept_full : (b : Bool) (old new : List NormalFault) → is_full (record { only_first = b; items = old }) ≡ true
    → kept b old new ≡ old
kept_full false old new h = absurd (cc)
kept_full true [] new h = absurd (cc)
kept_full true (f ∷ fs) new h = refl

-- no check finds nothing
pub after_none : (found : Found) → after_checks found [] ≡ found
after_none found = ap (λ items. record { only_first = found.only_first; items = items }) (kept_none found.only_first found.items)

-- two lists of checks, one after the other
pub after_both : (found : Found) (xs ys : List Check)
    → after_checks (after_checks found xs) ys ≡ after_checks found (xs ++ ys)
after_both found xs ys =
    ap (λ items. record { only_first = found.only_first; items = items })
    (kept_more found.only_first found.items (wrong xs) (wrong ys)
    ∙ ap (kept found.only_first found.items) (sym (wrong_append xs ys)))

-- a full list stays
pub after_full : (found : Found) (cs : List Check) → is_full found ≡ true → found ≡ after_checks found cs
after_full found cs h =
    sym (ap (λ items. record { only_first = found.only_first; items = items })
    (kept_full found.only_first found.items (wrong cs) h))

pub two_parts : (xs ys : List Check) (old mid new : Found) → mid ≡ after_checks old xs → new ≡ after_checks mid ys
    → new ≡ after_checks old (xs ++ ys)
two_parts xs ys old mid new e f = rw (f, e) (after_both old xs ys)

-- a check that holds finds nothing
pub after_right : (found : Found) (f : NormalFault) (b : Bool) → b ≡ true → found ≡ after_checks found ((f, b) ∷ [])
after_right found f b h = rw h (sym (after_none found))

-- one step along a list
dropped : {X : Type 0} (xs : List X) (i : ℕ) (x : X) → i < length xs → x ≡ get_or xs i x → drop i xs ≡ x ∷ drop (i + 1) xs
dropped xs i x lt is = cc (drop_more xs i x lt)

-- after the checks of an element: those of the elements after it are left
pub flat_past : {X : Type 0} (f : X → List Check) (xs : List X) (i : ℕ) (x : X) (old new all : Found) → i < length xs
    → x ≡ get_or xs i x → new ≡ after_checks old (f x) → after_checks old (flat_map f (drop i xs)) ≡ all
    → after_checks new (flat_map f (drop (i + 1) xs)) ≡ all
flat_past f xs i x old new all lt is here so_far =
    let rest = flat_map f (drop (i + 1) xs) in
    two_parts (f x) rest old new (after_checks new rest) here refl ∙ rw (dropped xs i x lt is) at so_far

-- the same with one check for each element
pub map_past : {X : Type 0} (f : X → Check) (xs : List X) (i : ℕ) (x : X) (old new all : Found) → i < length xs
    → x ≡ get_or xs i x → new ≡ after_checks old (f x ∷ []) → after_checks old (map f (drop i xs)) ≡ all
    → after_checks new (map f (drop (i + 1) xs)) ≡ all
map_past f xs i x old new all lt is here so_far =
    let rest = map f (drop (i + 1) xs) in
    two_parts (f x ∷ []) rest old new (after_checks new rest) here refl ∙ rw (dropped xs i x lt is) at so_far

-- the same along a list with a state
pub along_past : {S X : Type 0} (f : S → X → List Check) (g : S → X → S) (s t : S) (xs : List X) (i : ℕ) (x : X)
    (old new all : Found) → i < length xs → x ≡ get_or xs i x → new ≡ after_checks old (f s x) → t ≡ g s x
    → after_checks old (checks_along f g s (drop i xs)) ≡ all → after_checks new (checks_along f g t (drop (i + 1) xs)) ≡ all
along_past f g s t xs i x old new all lt is here next so_far =
    let rest = checks_along f g (g s x) (drop (i + 1) xs) in
    rw next (two_parts (f s x) rest old new (after_checks new rest) here refl ∙ rw (dropped xs i x lt is) at so_far)

-- one step along a range of numbers
pub range_past : (f : ℕ → Check) (a e : ℕ) (old new all : Found) → a < e → new ≡ after_checks old (f a ∷ [])
    → after_checks old (map f (range_with_len a (e - a))) ≡ all
    → after_checks new (map f (range_with_len (a + 1) (e - (a + 1)))) ≡ all
range_past f a e old new all lt here so_far =
    let more : e - a ≡ suc (e - (a + 1)) = omega arith in
    let rest = map f (range_with_len (a + 1) (e - (a + 1))) in
    two_parts (f a ∷ []) rest old new (after_checks new rest) here refl ∙ rw more at so_far

-- an element of a mapped list
pub mapped : {X Y : Type 0} (f : X → Y) (xs : List X) (i : ℕ) (d : X) → i < length xs
    → f (get_or xs i d) ≡ get_or (map f xs) i (f (get_or xs i d))
mapped f xs i d lt = sym (get_or-map f xs i d (f (get_or xs i d)) lt)

pub within : {X Y : Type 0} (f : X → Y) (xs : List X) (i : ℕ) → i < length xs → i < length (map f xs)
within f xs i lt = rw (length-map xs f) lt

-- one step of a state along a list
pub fold_past : {S X : Type 0} (g : S → X → S) (s t : S) (xs : List X) (i : ℕ) (x : X) (all : S) → i < length xs
    → x ≡ get_or xs i x → t ≡ g s x → fold g s (drop i xs) ≡ all → fold g t (drop (i + 1) xs) ≡ all
fold_past g s t xs i x all lt is next so_far = rw next (rw (dropped xs i x lt is) at so_far)

pub along_append : {S X : Type 0} (f : S → X → List Check) (g : S → X → S) (s : S) (xs ys : List X)
    → checks_along f g s (xs ++ ys) ≡ checks_along f g s xs ++ checks_along f g (fold g s xs) ys
along_append f g s [] ys = refl
along_append f g s (x ∷ xs) ys = simp (along_append f g (g s x) xs ys, append_assoc)

-- whether the length of the list has stayed says whether no check has failed, unless the list is full
kept_length : (b : Bool) (old ws : List NormalFault)
    → (is_full (record { only_first = b; items = kept b old ws }) ≡ true)
    ⊎ (nat_eq (length (kept b old ws)) (length old) ≡ is_empty ws)
kept_length false old [] = inr (let e = append-nil old in rw e (eq-eqb (length old) (length old) refl))
kept_length false old (w ∷ ws) = inr (let long = length-append old (w ∷ ws) in grind (arith, nat_tests))
kept_length true [] [] = inr refl
kept_length true [] (w ∷ ws) = inl refl
kept_length true (f ∷ fs) ws = inl refl

pub says : (old new : Found) (cs : List Check) → new ≡ after_checks old cs
    → SaysIfNone new cs (nat_eq (length new.items) (length old.items))
says old new cs e = rw e (kept_length old.only_first old.items (wrong cs))

-- a list that is full stays full
pub says_later : (old new : Found) (cs ds : List Check) (b : Bool) → new ≡ after_checks old ds → SaysIfNone old cs b
    → SaysIfNone new cs b
says_later old new cs ds b e (inl full) = inl (let same = e ∙ sym (after_full old ds full) in rw same full)
says_later old new cs ds b e (inr is) = inr is

pub said : (found : Found) (cs : List Check) (b : Bool) → SaysIfNone found cs b → is_full found ≡ false → b ≡ is_empty (wrong cs)
said found cs b (inl full) not_full = absurd (false≢true (sym not_full ∙ full))
said found cs b (inr is) not_full = is
