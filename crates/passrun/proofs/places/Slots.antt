-- The slots of a node's values.
use Rattle.passrun.proofs.Common
use Common.{append-nil, ℕ, zero, suc, ◌≡◌, ◌≢◌, ◌+◌, ◌<◌, ◌≤◌, Bool, true, false, nat_le, if◌then◌else◌, List, [], ◌∷◌, ◌++◌}
use Common.{Some, None, Option, slice_get, length, take, set, map, refl, ◌∙◌, sym, arith, append_assoc, length-append, le-leb}
use Common.{set-append_left, slice_get_within, Value, Item, Production, Literal, Class, Inherited, Synthesized, item_kinds}
use Common.{stored_items, symbol_kinds, item_passes, synthesized_count, values_up_to, count_up_to, Setting, Table, copied_passes}
use Common.{copies, in_children, place_passes, stored, argument_slot, copied_all, copied_before, copy_start, rank, stored_width}
use Common.item
use Rattle.ag_grammar.specs.declared.grammar.Symbol.{Symbol}
use Rattle.passrun.proofs.places.Tables.{same_values}

pub get_left : {X : Type 0} (xs ys : List X) (i : ℕ) (x : X) → slice_get xs i ≡ Some x → slice_get (xs ++ ys) i ≡ Some x
get_left [] ys i x h = cc
get_left (y ∷ xs) ys zero x h = h
get_left (y ∷ xs) ys (suc i) x h = get_left xs ys i x h

pub get_right : {X : Type 0} (xs ys : List X) (i : ℕ) → slice_get (xs ++ ys) (length xs + i) ≡ slice_get ys i
get_right [] ys i = let n : 0 + i ≡ i = omega arith in cc
get_right (x ∷ xs) ys i = let n : suc (length xs) + i ≡ suc (length xs + i) = omega arith in cc (get_right xs ys i)

pub length_row : (k : ℕ) (ps : List ℕ) (f : ℕ → Value) → length (values_up_to k ps f) ≡ count_up_to k ps
length_row k [] f = refl
length_row k (p ∷ ps) f = go (nat_le p k) (length_row k ps (λ a. f (suc a)))
  where
    go : (b : Bool) → length (values_up_to k ps (λ a. f (suc a))) ≡ count_up_to k ps
        → length ((if b then f 0 ∷ [] else []) ++ values_up_to k ps (λ a. f (suc a))) ≡ (if b then 1 else 0) + count_up_to k ps
    go true n = omega arith
    go false n = omega arith

pub row_at : (k : ℕ) (ps : List ℕ) (f : ℕ → Value) (a p : ℕ) → slice_get ps a ≡ Some p → p ≤ k
    → slice_get (values_up_to k ps f) (rank k ps a) ≡ Some (f a)
row_at k [] f a p is le = cc
row_at k (x ∷ ps) f zero p is le =
    let e : x ≡ p = cc in
    let t : nat_le x k ≡ true = le-leb x k (omega arith) in cc
row_at k (x ∷ ps) f (suc a) p is le = go (nat_le x k) ∙ row_at k ps (λ a. f (suc a)) a p is le
  where
    go : (b : Bool) → slice_get ((if b then f 0 ∷ [] else []) ++ values_up_to k ps (λ a. f (suc a)))
        ((if b then 1 else 0) + rank k ps a) ≡ slice_get (values_up_to k ps (λ a. f (suc a))) (rank k ps a)
    go true = let n : 1 + rank k ps a ≡ suc (rank k ps a) = omega arith in cc
    go false = let n : 0 + rank k ps a ≡ rank k ps a = omega arith in cc

pub row_less : (k : ℕ) (ps : List ℕ) (f : ℕ → Value) (a p : ℕ) → slice_get ps a ≡ Some p → p ≤ k
    → rank k ps a < length (values_up_to k ps f)
row_less k ps f a p is le = slice_get_within (values_up_to k ps f) (rank k ps a) (f a) (row_at k ps f a p is le)

pub row_set : (k : ℕ) (ps : List ℕ) (f h : ℕ → Value) (a p : ℕ) (v : Value) → slice_get ps a ≡ Some p → p ≤ k → h a ≡ v
    → ((b : ℕ) → b ≢ a → h b ≡ f b) → set (values_up_to k ps f) (rank k ps a) v ≡ values_up_to k ps h
row_set k [] f h a p v is le here other = cc
row_set k (x ∷ ps) f h zero p v is le here other =
    let e : x ≡ p = cc in
    let t : nat_le x k ≡ true = le-leb x k (omega arith) in
    let rest = same_values k ps (λ a. f (suc a)) (λ a. h (suc a)) (λ a n at le. sym (other (suc a) (λ z. omega arith))) in cc
row_set k (x ∷ ps) f h (suc a) p v is le here other =
    go (nat_le x k)
    (row_set k ps (λ a. f (suc a)) (λ a. h (suc a)) a p v is le here (λ b z. other (suc b) (λ y. z (omega arith))))
  where
    go : (b : Bool) → set (values_up_to k ps (λ a. f (suc a))) (rank k ps a) v ≡ values_up_to k ps (λ a. h (suc a))
        → set ((if b then f 0 ∷ [] else []) ++ values_up_to k ps (λ a. f (suc a))) ((if b then 1 else 0) + rank k ps a) v
        ≡ (if b then h 0 ∷ [] else []) ++ values_up_to k ps (λ a. h (suc a))
    go true rest =
        let n : 1 + rank k ps a ≡ suc (rank k ps a) = omega arith in cc (other 0 (λ z. omega arith))
    go false rest = let n : 0 + rank k ps a ≡ rank k ps a = omega arith in cc

-- Values that make the same row are equal up to the pass.
pub same_at : (k : ℕ) (ps : List ℕ) (f h : ℕ → Value) → values_up_to k ps f ≡ values_up_to k ps h → (a p : ℕ)
    → slice_get ps a ≡ Some p → p ≤ k → f a ≡ h a
same_at k ps f h same a p is le =
    let e : Some (f a) ≡ Some (h a) = cc (row_at k ps f a p is le, row_at k ps h a p is le) in
    cc

-- An element among the first n of a list.
pub get_taken : (n : ℕ) (ps : List ℕ) (a p : ℕ) → a < n → slice_get ps a ≡ Some p → slice_get (take n ps) a ≡ Some p
get_taken zero ps a p less is = absurd (omega arith)
get_taken (suc n) [] a p less is = is
get_taken (suc n) (q ∷ ps) zero p less is = is
get_taken (suc n) (q ∷ ps) (suc a) p less is = get_taken n ps a p (omega arith) is

-- An attribute among the first n has the same rank there.
pub rank_taken : (k n : ℕ) (ps : List ℕ) (a p : ℕ) → slice_get (take n ps) a ≡ Some p → rank k ps a ≡ rank k (take n ps) a
rank_taken k zero [] a p is = refl
rank_taken k zero (q ∷ ps) a p is = absurd cc
rank_taken k (suc n) [] a p is = refl
rank_taken k (suc n) (q ∷ ps) zero p is = refl
rank_taken k (suc n) (q ∷ ps) (suc a) p is = cc (rank_taken k n ps a p is)

-- The row of the first n attributes is a prefix of the row of all.
pub begins_row : (k n : ℕ) (ps : List ℕ) (h : ℕ → Value)
    → (others : List Value) × (values_up_to k ps h ≡ values_up_to k (take n ps) h ++ others)
begins_row k zero [] h = ([], refl)
begins_row k zero (p ∷ ps) h = (values_up_to k (p ∷ ps) h, refl)
begins_row k (suc n) [] h = ([], refl)
begins_row k (suc n) (p ∷ ps) h =
    let r = begins_row k n ps (λ a. h (suc a)) in
    let first = if nat_le p k then h 0 ∷ [] else [] in
    (r.0, cc (append_assoc first (values_up_to k (take n ps) (λ a. h (suc a))) r.0))

-- The copies of an item are a prefix of the row of its tree's root.
pub begins_with_copy : (c : Setting) (x : Item) (h : ℕ → Value)
    → (others : List Value)
    × (values_up_to c.write (item_passes c.passes (Some x)) h ≡ values_up_to c.write (copied_passes c x) h ++ others)
begins_with_copy c (item.Symbol s) h = begins_row c.write (synthesized_count (slice_get c.grammar.symbols s)) (c.passes s) h
begins_with_copy c (item.Terminal (Class d)) h = ([], sym (append-nil (values_up_to c.write (0 ∷ []) h)))
begins_with_copy c (item.Terminal (Literal l)) h = ([], refl)

-- The number of copies.
pub length_copies : (c : Setting) (xs : List Item) (e : Table) → length (copies c c.write xs e) ≡ copied_all c xs
length_copies c [] e = refl
length_copies c (x ∷ xs) e =
    omega (
      arith,
      length_row c.write (copied_passes c x) (e 0),
      length_copies c xs (λ j. e (suc j)),
      length-append (values_up_to c.write (copied_passes c x) (e 0)) (copies c c.write xs (λ j. e (suc j))),
    )

pub length_stored : (c : Setting) (q : Production) (f : ℕ → Value) (s : Table) → length (stored c q f s) ≡ stored_width c q
length_stored c q f s =
    omega (
      arith,
      length_row c.write (c.passes q.left) f,
      length_copies c (stored_items q.items) (in_children s),
      length-append (values_up_to c.write (c.passes q.left) f) (copies c c.write (stored_items q.items) (in_children s)),
    )

-- Equal values make equal copies.
pub copies_same : (c : Setting) (k : ℕ) (xs : List Item) (e h : Table)
    → ((j a p : ℕ) (x : Item) → slice_get xs j ≡ Some x → slice_get (copied_passes c x) a ≡ Some p → p ≤ k → e j a ≡ h j a)
    → copies c k xs e ≡ copies c k xs h
copies_same c k [] e h same = refl
copies_same c k (x ∷ xs) e h same =
    cc (
      same_values k (copied_passes c x) (e 0) (h 0) (λ a p is le. same 0 a p x refl is le),
      copies_same c k xs (λ j. e (suc j)) (λ j. h (suc j)) (λ j a p y at is le. same (suc j) a p y at is le),
    )

-- The copies of one item come between other values, `before` and `after`. For a table that differs only at this item, `before`
-- and `after` are the same.
pub shares : (c : Setting) (xs : List Item) (b : ℕ) (x : Item) → slice_get xs b ≡ Some x → (e : Table)
    → (before : List Value) × (after : List Value) × (length before ≡ copied_before c xs b)
    × ((h : Table) → ((j a : ℕ) → j ≢ b → h j a ≡ e j a)
    → copies c c.write xs h ≡ before ++ (values_up_to c.write (copied_passes c x) (h b) ++ after))
shares c [] b x at e = absurd cc
shares c (y ∷ xs) zero x at e =
    let same : y ≡ x = cc in (
      [],
      copies c c.write xs (λ j. e (suc j)),
      refl,
      λ h other. cc (copies_same c c.write xs (λ j. h (suc j)) (λ j. e (suc j))
          (λ j a p z at' is le. other (suc j) a (λ bad. omega arith))),
    )
shares c (y ∷ xs) (suc b) x at e =
    let r = shares c xs b x at (λ j. e (suc j)) in
    let first = values_up_to c.write (copied_passes c y) (e 0) in
    let n = length_row c.write (copied_passes c y) (e 0) in
    let l = length-append first r.0 in
    let m = r.2 in (
      first ++ r.0,
      r.1,
      omega arith,
      λ h other. cc (
        same_values c.write (copied_passes c y) (h 0) (e 0) (λ a p is le. other 0 a (λ bad. omega arith)),
        r.3 (λ j. h (suc j)) (λ j a z. other (suc j) a (λ w. z (omega arith))),
        append_assoc first r.0 (values_up_to c.write (copied_passes c x) (h (suc b)) ++ r.1),
      ),
    )

-- In a row the copies of an item come between other values, `before` and `after`. For a table that differs only at this item,
-- `before` and `after` are the same.
pub row_split : (c : Setting) (q : Production) (f : ℕ → Value) (s : Table) (b : ℕ) {x : Item}
    → slice_get (stored_items q.items) b ≡ Some x
    → (before : List Value) × (after : List Value) × (length before ≡ copy_start c q (suc b))
    × ((h : Table) → ((j a : ℕ) → j ≢ b → h (suc j) a ≡ s (suc j) a)
    → stored c q f h ≡ before ++ (values_up_to c.write (copied_passes c x) (h (suc b)) ++ after))
row_split c q f s b {x} at =
    let r = shares c (stored_items q.items) b x at (in_children s) in
    let own = values_up_to c.write (c.passes q.left) f in (
      own ++ r.0,
      r.1,
      omega (arith, length_row c.write (c.passes q.left) f, r.2, length-append own r.0),
      λ h other. cc (
        r.3 (in_children h) other,
        append_assoc own r.0 (values_up_to c.write (copied_passes c x) (h (suc b)) ++ r.1),
      ),
    )

-- The slot of an argument at a child has its value.
pub argument_at : (c : Setting) (q : Production) (f : ℕ → Value) (s : Table) (row : List Value) (b a p : ℕ) (x : Item)
    → slice_get (stored_items q.items) b ≡ Some x → slice_get (copied_passes c x) a ≡ Some p → p ≤ c.write
    → slice_get (stored c q f s ++ row) (argument_slot c q (suc b) a) ≡ Some (s (suc b) a)
argument_at c q f s row b a p x at is le =
    let r = row_split c q f s b at in
    let share = values_up_to c.write (copied_passes c x) (s (suc b)) in
    let k = rank c.write (copied_passes c x) a in
    let index : argument_slot c q (suc b) a ≡ length r.0 + k = omega (arith, r.2, rank_copied x at is) in
    cc (
      r.3 s (λ j a z. refl),
      append_assoc r.0 (share ++ r.1) row,
      append_assoc share r.1 row,
      get_right r.0 (share ++ (r.1 ++ row)) k,
      get_left share (r.1 ++ row) k (s (suc b) a) (row_at c.write (copied_passes c x) (s (suc b)) a p is le),
    )
  where
    rank_copied : (x : Item) → slice_get (stored_items q.items) b ≡ Some x → slice_get (copied_passes c x) a ≡ Some p
        → rank c.write (place_passes c q (suc b)) a ≡ rank c.write (copied_passes c x) a
    rank_copied (item.Symbol t) at is =
        cc (rank_taken c.write (synthesized_count (slice_get c.grammar.symbols t)) (c.passes t) a p is)
    rank_copied (item.Terminal (Class d)) at is = cc
    rank_copied (item.Terminal (Literal l)) at is = cc

-- The slot of an argument at the left side has its value.
pub own_at : (c : Setting) (q : Production) (f : ℕ → Value) (s : Table) (row : List Value) (a p : ℕ)
    → slice_get (c.passes q.left) a ≡ Some p → p ≤ c.write
    → slice_get (stored c q f s ++ row) (argument_slot c q 0 a) ≡ Some (f a)
own_at c q f s row a p is le =
    let own = values_up_to c.write (c.passes q.left) f in
    let copied = copies c c.write (stored_items q.items) (in_children s) in
    let n : argument_slot c q 0 a ≡ rank c.write (c.passes q.left) a = omega arith in
    cc (get_left (own ++ copied) row (rank c.write (c.passes q.left) a) (f a)
    (get_left own copied (rank c.write (c.passes q.left) a) (f a) (row_at c.write (c.passes q.left) f a p is le)))

-- Replacing one of the node's own values in its row.
pub own_set : (c : Setting) (q : Production) (f h : ℕ → Value) (s : Table) (a p : ℕ) (v : Value)
    → slice_get (c.passes q.left) a ≡ Some p → p ≤ c.write → h a ≡ v → ((b : ℕ) → b ≢ a → h b ≡ f b)
    → set (stored c q f s) (rank c.write (c.passes q.left) a) v ≡ stored c q h s
own_set c q f h s a p v is le here other =
    let own = values_up_to c.write (c.passes q.left) f in
    let copied = copies c c.write (stored_items q.items) (in_children s) in
    let r = rank c.write (c.passes q.left) a in
    cc (
      set-append_left own copied r v (row_less c.write (c.passes q.left) f a p is le),
      row_set c.write (c.passes q.left) f h a p v is le here other,
    )

-- A synthesized attribute comes before all inherited ones, so it is among those that are copied.
syn_below : (syn inh : List (List ℕ)) (a : ℕ)
    → slice_get (map (λ (n : List ℕ). Synthesized) syn ++ map (λ (n : List ℕ). Inherited) inh) a ≡ Some Synthesized
    → a < length syn
syn_below [] inh a is = absurd (no_synthesized inh a is)
  where
    no_synthesized : (inh : List (List ℕ)) (a : ℕ) → slice_get (map (λ (n : List ℕ). Inherited) inh) a ≡ Some Synthesized → ⊥
    no_synthesized [] a is = cc
    no_synthesized (n ∷ inh) zero is = cc
    no_synthesized (n ∷ inh) (suc a) is = no_synthesized inh a is
syn_below (n ∷ syn) inh zero is = omega arith
syn_below (n ∷ syn) inh (suc a) is = omega (arith, syn_below syn inh a is)

pub has_copy : (c : Setting) (x : Item) (a p : ℕ) → slice_get (item_kinds c.grammar (Some x)) a ≡ Some Synthesized
    → slice_get (item_passes c.passes (Some x)) a ≡ Some p → slice_get (copied_passes c x) a ≡ Some p
has_copy c (item.Symbol s) a p kind pass =
    get_taken (synthesized_count (slice_get c.grammar.symbols s)) (c.passes s) a p
    (below (slice_get c.grammar.symbols s) kind) pass
  where
    below : (o : Option Symbol) → slice_get (symbol_kinds o) a ≡ Some Synthesized → a < synthesized_count o
    below None kind = absurd cc
    below (Some y) kind = syn_below y.syn y.inh a kind
has_copy c (item.Terminal (Class d)) a p kind pass = pass
has_copy c (item.Terminal (Literal l)) a p kind pass = absurd cc

-- An attribute has the same pass among those that are copied as among all attributes of the item.
pub copied_is : (c : Setting) (x : Item) (a p : ℕ) → slice_get (copied_passes c x) a ≡ Some p
    → slice_get (item_passes c.passes (Some x)) a ≡ Some p
copied_is c (item.Symbol s) a p is = get_take (synthesized_count (slice_get c.grammar.symbols s)) (c.passes s) a p is
  where
    get_take : (n : ℕ) (ps : List ℕ) (a p : ℕ) → slice_get (take n ps) a ≡ Some p → slice_get ps a ≡ Some p
    get_take zero [] a p is = is
    get_take zero (q ∷ ps) a p is = absurd cc
    get_take (suc n) [] a p is = is
    get_take (suc n) (q ∷ ps) zero p is = is
    get_take (suc n) (q ∷ ps) (suc a) p is = get_take n ps a p is
copied_is c (item.Terminal (Class d)) a p is = is
copied_is c (item.Terminal (Literal l)) a p is = is
