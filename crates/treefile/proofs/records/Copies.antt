-- The copies in a record: their number, that they are well, and that they are the values of the children that match them.
use Rattle.treefile.proofs.Common
use Common.{◌≡◌, ℕ, zero, suc, ◌≤◌, Bool, true, false, List, [], ◌∷◌, length, take, drop, Option, Some, None, slice_get, All}
use Common.{refl, sym, subst, arith, length-append, length-drop, take-append-drop, drop_at, take_at, All-append, All-cons}
use Common.{All-nil, Value, Text, IsWell, Item, Production, Class, Grammar, Passes, AtEachNodeOf, IsWellOn, NoRule, Solves}
use Common.{SolvesAll, Valuation, WellAt, left_passes, rest, Forest, Tree, Fits, FitsAll, leaf, more, node, none, AreCopies}
use Common.{Child, MatchesCopy, children_with_copies, copies_of, copy_of, left_synthesized, max_copied, max_copies}
use Common.{synthesized_count, synthesized_passes, with_copies}
use Common.item
use Rattle.treefile.specs.records.Listed.{copied_count, copies_count}
use Rattle.treefile.proofs.records.Values.{count_of_values, values_few, values_well}

-- an element of a prefix of a list is one of the list
get_take : (n : ℕ) (ps : List ℕ) (a p : ℕ) → slice_get (take n ps) a ≡ Some p → slice_get ps a ≡ Some p
get_take zero ps a p is = cc
get_take (suc n) [] a p is = cc
get_take (suc n) (q ∷ ps) zero p is = is
get_take (suc n) (q ∷ ps) (suc a) p is = get_take n ps a p is

-- a synthesized attribute of a production's left side is one of the attributes of that side
pub synthesized_is : (g : Grammar) (m : Passes) (o : Option Production) (a p : ℕ) → slice_get (left_synthesized g m o) a ≡ Some p
    → slice_get (left_passes m o) a ≡ Some p
synthesized_is g m None a p is = is
synthesized_is g m (Some q) a p is = get_take (synthesized_count (slice_get g.symbols q.left)) (m q.left) a p is

module _ (g : Grammar) (m : Passes) (k : ℕ) where
  -- the lengths of copies
  copy_length : (x : Item) (t : Tree) (v : Valuation) → Fits g x t → length (copy_of g m k t v) ≡ copied_count g m k x
  copy_length (item.Symbol s) (node p ts) v f = rw (f.1, f.2) (count_of_values k (synthesized_passes g m s) (v []))
  copy_length (item.Terminal (Class c)) (leaf d text) v f = refl
  copy_length x (leaf d text) v f = elim f [ ]
  copy_length x (node p ts) v f = elim f [ ]

  pub copies_length : (xs : List Item) (ts : Forest) (vs : ℕ → Valuation) → FitsAll g xs ts
      → length (copies_of g m k ts vs) ≡ copies_count g m k xs
  copies_length [] none vs f = refl
  copies_length (x ∷ xs) (more t ts) vs f =
      omega (arith, length-append {A = Value}, copy_length x t (vs 0) f.0, copies_length xs ts (rest vs) f.1)
  copies_length xs ts vs f = elim f [ ]

  copy_few : (x : Item) (t : Tree) (v : Valuation) → Fits g x t → length (copy_of g m k t v) ≤ max_copied g m x
  copy_few (item.Symbol s) (node p ts) v f = rw (f.1, f.2) (values_few k (synthesized_passes g m s) (v []))
  copy_few (item.Terminal (Class c)) (leaf d text) v f = omega arith
  copy_few x (leaf d text) v f = elim f [ ]
  copy_few x (node p ts) v f = elim f [ ]

  pub copies_few : (xs : List Item) (ts : Forest) (vs : ℕ → Valuation) → FitsAll g xs ts
      → length (copies_of g m k ts vs) ≤ max_copies g m xs
  copies_few [] none vs f = omega arith
  copies_few (x ∷ xs) (more t ts) vs f =
      omega (arith, length-append {A = Value}, copy_few x t (vs 0) f.0, copies_few xs ts (rest vs) f.1)
  copies_few xs ts vs f = elim f [ ]

  -- copies of well values are well
  copy_well : (t : Tree) (v : Valuation) → Solves NoRule g t v → IsWellOn (λ p. p ≤ k) g m t v → All IsWell (copy_of g m k t v)
  copy_well (leaf c text) v texts well =
      All-cons IsWell (Text text) [] (subst IsWell texts (well 0 0 refl (omega arith))) (All-nil IsWell)
  copy_well (node p ts) v texts well =
      let o = slice_get g.productions p in
      values_well k (left_synthesized g m o) (v []) (λ a n is le. well.0 a n (synthesized_is g m o a n is) le)

  pub copies_well : (ts : Forest) (vs : ℕ → Valuation) → SolvesAll NoRule g ts vs
      → AtEachNodeOf (WellAt (λ p. p ≤ k)) g m ts vs vs → All IsWell (copies_of g m k ts vs)
  copies_well none vs texts well = All-nil IsWell
  copies_well (more t ts) vs texts well =
      All-append IsWell (copy_of g m k t (vs 0)) (copies_of g m k ts (rest vs)) (copy_well t (vs 0) texts.0 well.0)
      (copies_well ts (rest vs) texts.1 well.1)

  -- trees of children, whose values match their copies
  abbrev pub MatchCopies : List Child → Forest → (ℕ → Valuation) → Type 0
  MatchCopies [] none vs = Unit {0}
  MatchCopies [] (more t ts) vs = ⊥
  MatchCopies (x ∷ xs) none vs = ⊥
  MatchCopies (x ∷ xs) (more t ts) vs = Fits g x.0 t × MatchesCopy x.1 (copy_of g m k t (vs 0)) × MatchCopies xs ts (rest vs)

  -- the copies in a node's record, none if the version has no copies
  abbrev pub kept : Bool → List Value → List Value
  kept false copies = []
  kept true copies = copies

  -- the trees of children match the copies in their parent's record,
  pub match_copies : (has : Bool) (xs : List Item) (ts : Forest) (vs : ℕ → Valuation) → FitsAll g xs ts
      → MatchCopies (children_with_copies has g m k xs (kept has (copies_of g m k ts vs))) ts vs
  match_copies has [] none vs f = tt
  match_copies false (x ∷ xs) (more t ts) vs f = (f.0, tt, match_copies false xs ts (rest vs) f.1)
  match_copies true (x ∷ xs) (more t ts) vs f =
      let one = copy_of g m k t (vs 0) in
      let others = copies_of g m k ts (rest vs) in
      let long = copy_length x t (vs 0) f.0 in (
        f.0,
        sym (take_at one others (copied_count g m k x) long),
        rw (drop_at one others (copied_count g m k x) long) (match_copies true xs ts (rest vs) f.1),
      )
  match_copies has xs ts vs f = elim f [ ]

  pub are_copies : (has : Bool) (xs : List Item) (ts : Forest) (vs : ℕ → Valuation) → FitsAll g xs ts → SolvesAll NoRule g ts vs
      → AtEachNodeOf (WellAt (λ p. p ≤ k)) g m ts vs vs → AreCopies has g m k xs (kept has (copies_of g m k ts vs))
  are_copies false xs ts vs f texts well = refl
  are_copies true xs ts vs f texts well = (copies_length xs ts vs f, copies_well ts vs texts well)

  -- trees that match their copies are trees of the items, and have these copies
  pub fits_exact : (has : Bool) (xs : List Item) (cs : List Value) (ts : Forest) (vs : ℕ → Valuation)
      → MatchCopies (children_with_copies has g m k xs cs) ts vs → FitsAll g xs ts
  fits_exact has [] cs none vs a = tt
  fits_exact false (x ∷ xs) cs (more t ts) vs a = (a.0, fits_exact false xs cs ts (rest vs) a.2)
  fits_exact true (x ∷ xs) cs (more t ts) vs a = (a.0, fits_exact true xs (drop (copied_count g m k x) cs) ts (rest vs) a.2)
  fits_exact has xs cs ts vs a = elim a [ ]

  copies_exact : (xs : List Item) (cs : List Value) (ts : Forest) (vs : ℕ → Valuation) → length cs ≡ copies_count g m k xs
      → MatchCopies (children_with_copies true g m k xs cs) ts vs → cs ≡ copies_of g m k ts vs
  copies_exact [] [] none vs long a = refl
  copies_exact [] (c ∷ cs) none vs long a = absurd (omega arith)
  copies_exact (x ∷ xs) cs (more t ts) vs long a =
      let n = copied_count g m k x in
      let others = copies_exact xs (drop n cs) ts (rest vs) (omega (arith, length-drop n cs)) a.2 in
      cc (take-append-drop n cs)
  copies_exact xs cs ts vs long a = elim a [ ]

  pub stored_exact : (has : Bool) (xs : List Item) (own cs : List Value) (ts : Forest) (vs : ℕ → Valuation)
      → AreCopies has g m k xs cs → MatchCopies (children_with_copies has g m k xs cs) ts vs
      → with_copies has own cs ≡ with_copies has own (copies_of g m k ts vs)
  stored_exact false xs own cs ts vs are a = refl
  stored_exact true xs own cs ts vs are a = cc (copies_exact xs cs ts vs are.0 a)

  -- a record's values with the copies that the version has
  pub kept_same : (has : Bool) (own cs : List Value) → with_copies has own (kept has cs) ≡ with_copies has own cs
  kept_same false own cs = refl
  kept_same true own cs = refl

-- own values and copies that are well are a list of well values
pub stored_well : (has : Bool) (own cs : List Value) → All IsWell own → All IsWell cs → All IsWell (with_copies has own cs)
stored_well false own cs a b = a
stored_well true own cs a b = All-append IsWell own cs a b
