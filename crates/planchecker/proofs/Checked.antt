-- An assignment and code are a plan if the tests of all their parts pass.
use Rattle.planchecker.proofs.Common
use Common.{ℕ, ◌≡◌, ◌+◌, ◌-◌, ◌<◌, ◌≤◌, List, [], Some, slice_get, get_or, length, map, option_map, inl, inr, ap, ◌∙◌, sym, refl}
use Common.{arith, length-map, slice_get-get_or, slice_get_read, Vec, Production, Grammar, IsLegal, max_passes, passes_of}
use Common.{IsGreatest, Instr, Lists, lists_of, row_of, rows_of, ListsAgree, EachAt, AreAllowed}
use Rattle.std.proofs.lemmas.Option.{get_or_from_slice_get, same_Some, slice_get-map}
use Rattle.passcode.specs.Shape.{HasNumbers, HasShape}
use Rattle.planchecker.specs.Plans.{IsPlan}

pub legal_of : (g : Grammar) (rows : List (List ℕ)) (code : Lists) → HasShape g rows code
    → EachAt (λ i. AreAllowed (passes_of rows)) g.productions → IsLegal g (passes_of rows)
legal_of g rows code shape h = record {
  whole = shape.numbers.whole;
  positive = shape.numbers.positive;
  allowed = λ i q is u o k rule arg has. h i q is rule.0 u rule.1 o k arg has;
}

pub plan_of : (g : Grammar) (rows : List (List ℕ)) (code : Lists) → HasShape g rows code
    → EachAt (λ i. AreAllowed (passes_of rows)) g.productions
    → EachAt (λ i q. ListsAgree (passes_of rows) q (lists_of code i)) g.productions → IsPlan g rows code
plan_of g rows code shape allowed agree = record {
  shape = shape;
  legal = legal_of g rows code shape allowed;
  agrees = λ p k q xs is list. rw (let e : k ≡ k - 1 + 1 = let one = list.0 in omega arith in e) (agree p q is (k - 1) xs list.1);
}

-- the greatest pass of an assignment of the right shape is at most 8,192
most_of : (g : Grammar) (rows : List (List ℕ)) → HasNumbers g rows → (n : ℕ) → IsGreatest n rows → n ≤ max_passes
most_of g rows numbers n greatest = elim greatest.there [
  | inl e ↦ omega arith
  | inr (row, at, has) ↦ numbers.most at.0 has.0 n (rw (get_or_from_slice_get rows at.0 row [] at.1) has.1)
]

-- a member of a mapped list
mapped_at : {A B : Type 0} (f : A → B) (xs : List A) (i : ℕ) (x : A) → i < length xs → x ≡ get_or xs i x
    → slice_get (map f xs) i ≡ Some (f x)
mapped_at f xs i x less is = slice_get-map f xs i ∙ ap (option_map f) (slice_get_read xs (length xs) i x refl less is)

-- a slice of the vector with index i in a list of vectors has the elements of that vector
pub items_at : {A : Type 0} (rows : List (Vec A)) (i : ℕ) (v : Vec A) (xs : List A) → i < length rows → v ≡ get_or rows i v
    → xs ≡ v.items → slice_get (map (λ (w : Vec A). w.items) rows) i ≡ Some xs
items_at {A} rows i v xs less is items = mapped_at (λ (w : Vec A). w.items) rows i v less is ∙ ap Some (sym items)

pub row_is : (rows : List (Vec (Vec Instr))) (i : ℕ) (v : Vec (Vec Instr)) → i < length rows → v ≡ get_or rows i v
    → slice_get (rows_of rows) i ≡ Some (row_of v.items)
row_is rows i v less is = mapped_at (λ (w : Vec (Vec Instr)). row_of w.items) rows i v less is

-- the lists that a function reads at the index of a production are the production's, at most 8,192 of them
pub lists_at : (g : Grammar) (rows : List (List ℕ)) (code : Lists) (lists : List (Vec (Vec Instr))) (qs : List Production) (i : ℕ)
    (v : Vec (Vec Instr)) (xs : List (Vec Instr)) → HasShape g rows code → rows_of lists ≡ code → qs ≡ g.productions
    → i < length qs → v ≡ get_or lists i v → xs ≡ v.items → (row_of xs ≡ lists_of code i) × (length xs ≤ max_passes)
lists_at g rows code lists qs i v xs shape same lent less is items =
    let many = shape.lists.productions in
    let lent_length = ap length lent in
    let count = ap length same in
    let long = length-map lists (λ (w : Vec (Vec Instr)). row_of w.items) in
    let at = slice_get-get_or code i [] (omega arith) in
    let equal : row_of xs ≡ lists_of code i = ap row_of items ∙ same_Some (row_of v.items) (lists_of code i)
    (sym (row_is lists i v (omega arith) is) ∙ ap (λ c. slice_get c i) same ∙ at) in
    let each = ap length equal ∙ shape.lists.lists i (lists_of code i) at in
    let most = most_of g rows shape.numbers shape.lists.pass_count shape.lists.greatest in
    let width = length-map xs (λ (w : Vec Instr). w.items) in
    (equal, omega arith)
