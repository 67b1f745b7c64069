-- A table with one value changed, and the values of its rows.
use Rattle.passrun.proofs.Common
use Common.{length, take_at, drop_at, All-take, All-drop, ℕ, zero, suc, ◌≡◌, ◌≤◌, Bool, true, false, ◌&&◌, nat_eq, nat_le}
use Common.{if◌then◌else◌, All, ◌≢◌, List, [], ◌∷◌, ◌++◌, Some, slice_get, refl, ap, ◌∙◌, sym, arith, leb-true, le-leb, eqb-true}
use Common.{eq-eqb, All-head, All-tail, Value, Text, Target, Grammar, Passes, left_passes, values_up_to, node_body, version_two}
use Common.{Table, with_row}
use Rattle.std.proofs.Common.{cond}
use Rattle.passrun.specs.passing.Change.{set}

pub set_here : (e : Table) (j a : ℕ) (v : Value) → set e j a v j a ≡ v
set_here e j a v = cc (eq-eqb j j refl, eq-eqb a a refl)

pub set_other : (e : Table) (j a : ℕ) (v : Value) (i b : ℕ) → ((i ≡ j) × (b ≡ a) → ⊥) → set e j a v i b ≡ e i b
set_other e j a v i b h = go (nat_eq i j) refl
  where
    second : (x : Bool) → nat_eq i j ≡ true → nat_eq b a ≡ x → cond x v (e i b) ≡ e i b
    second false z w = refl
    second true z w = absurd (h (eqb-true i j z, eqb-true b a w))

    go : (x : Bool) → nat_eq i j ≡ x → cond (x && nat_eq b a) v (e i b) ≡ e i b
    go false z = refl
    go true z = second (nat_eq b a) z refl

pub set_target : (e : Table) (j a : ℕ) (v : Value) (o : Target) {t : Target} → t ≡ record { place = j; attr = a } → (o ≡ t → ⊥)
    → set e j a v o.place o.attr ≡ e o.place o.attr
set_target e j a v o is h = set_other e j a v o.place o.attr (λ both.
    let x = both.0 in
    let y = both.1 in
    h (ap (λ j. record { place = j; attr = o.attr }) x ∙ ap (λ b. record { place = j; attr = b }) y ∙ sym is))

value_same : (p k : ℕ) (x y : Value) {xs ys : List Value} → (p ≤ k → x ≡ y) → xs ≡ ys
    → (if nat_le p k then x ∷ [] else []) ++ xs ≡ (if nat_le p k then y ∷ [] else []) ++ ys
value_same p k x y {xs} {ys} h e = go (nat_le p k) refl
  where
    go : (b : Bool) → nat_le p k ≡ b → (if b then x ∷ [] else []) ++ xs ≡ (if b then y ∷ [] else []) ++ ys
    go false z = e
    go true z = let s : x ≡ y = h (leb-true p k z) in cc

-- Only the values of passes up to k determine a row.
pub same_values : (k : ℕ) (ps : List ℕ) (f h : ℕ → Value) → ((a p : ℕ) → slice_get ps a ≡ Some p → p ≤ k → f a ≡ h a)
    → values_up_to k ps f ≡ values_up_to k ps h
same_values k [] f h e = refl
same_values k (p ∷ ps) f h e =
    value_same p k (f 0) (h 0) (e 0 p refl) (same_values k ps (λ a. f (suc a)) (λ a. h (suc a)) (λ a. e (suc a)))

-- The table with the values at one place replaced.
pub with_is : (e : Table) (j : ℕ) (f : ℕ → Value) → with_row e j f j ≡ f
with_is e j f = cc (eq-eqb j j refl)

pub with_here : (e : Table) (j : ℕ) (f : ℕ → Value) (a : ℕ) → with_row e j f j a ≡ f a
with_here e j f a = cc (eq-eqb j j refl)

pub with_other : (e : Table) (j : ℕ) (f : ℕ → Value) (i a : ℕ) → i ≢ j → with_row e j f i a ≡ e i a
with_other e j f i a h = go (nat_eq i j) refl
  where
    go : (x : Bool) → nat_eq i j ≡ x → cond x f (e i) a ≡ e i a
    go false z = refl
    go true z = absurd (h (eqb-true i j z))

-- A value in a row has the property that all values of the row have.
value_has : (P : Value → Type 0) (p k : ℕ) (x : Value) (xs : List Value) → All P ((if nat_le p k then x ∷ [] else []) ++ xs)
    → (p ≤ k → P x) × All P xs
value_has P p k x xs h = go (nat_le p k) refl h
  where
    go : (b : Bool) → nat_le p k ≡ b → All P ((if b then x ∷ [] else []) ++ xs) → (p ≤ k → P x) × All P xs
    go false z h = ((λ l. let y = le-leb p k l in absurd cc), h)
    go true z h = ((λ l. All-head P x xs h), All-tail P x xs h)

pub in_row : (P : Value → Type 0) (k : ℕ) (ps : List ℕ) (f : ℕ → Value) → All P (values_up_to k ps f) → (a p : ℕ)
    → slice_get ps a ≡ Some p → p ≤ k → P (f a)
in_row P k [] f h a p at le = cc
in_row P k (x ∷ ps) f h zero p at le = let e : x ≡ p = cc in
    (value_has P x k (f 0) (values_up_to k ps (λ a. f (suc a))) h).0 (omega arith)
in_row P k (x ∷ ps) f h (suc a) p at le =
    in_row P k ps (λ a. f (suc a)) (value_has P x k (f 0) (values_up_to k ps (λ a. f (suc a))) h).1 a p at le

-- Equal values of passes up to k make the same record.
pub body_same : (k : ℕ) (g : Grammar) (m : Passes) (p s : ℕ) (f h : ℕ → Value) (cs : List Value)
    → left_passes m (slice_get g.productions p) ≡ m s → ((a n : ℕ) → slice_get (m s) a ≡ Some n → n ≤ k → f a ≡ h a)
    → node_body version_two g m k p f cs ≡ node_body version_two g m k p h cs
body_same k g m p s f h cs is same =
    cc (same_values k (left_passes m (slice_get g.productions p)) f h
    (λ a n at le. same a n (cc) le))

-- The row of a token.
pub text_row : (k : ℕ) (text : List ℕ) → values_up_to k (0 ∷ []) (λ a. Text text) ≡ Text text ∷ []
text_row k text = cc (le-leb 0 k (omega arith))

pub All-before : (P : Value → Type 0) (xs ys : List Value) → All P (xs ++ ys) → All P xs
All-before P xs ys h = rw (take_at xs ys (length xs) refl) at (All-take P (length xs) (xs ++ ys) h)

pub All-after : (P : Value → Type 0) (xs ys : List Value) → All P (xs ++ ys) → All P ys
All-after P xs ys h = rw (drop_at xs ys (length xs) refl) at (All-drop P (length xs) (xs ++ ys) h)
