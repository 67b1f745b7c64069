-- Reading the body of a record.
use Rattle.pass_rows.proofs.Common
use Common.{flat_map, ℕ, zero, suc, ◌≡◌, ◌+◌, ◌-◌, ◌<◌, ◌≤◌, nat_le, if◌then◌else◌, List, [], ◌∷◌, ◌++◌, Some, slice_get, length}
use Common.{drop, get_or, refl, ap, sym, arith, length-take, slice_get_within, Value, Num, Item, Production, Literal, Class}
use Common.{stored_items, Setting, copied_passes, row_passes, AreTaken, IsNoRow, rules, append_assoc, append-nil, nat_tests}
use Common.{drop_all, drop_more, get_or_from_slice_get}
use Common.item
use Rattle.std.specs.Int.Signed.{mag}
use Rattle.std.proofs.Common.{ℤ, ◌^◌, Bool, true, false, All, Result, Err, length-append, length-drop, pos, negsuc, take}
use Rattle.std.proofs.lemmas.Grind.{flat_map-append}
use Rattle.std.proofs.lemmas.List.{nil_from_length, take-append-drop, take_rest}
use Rattle.std.proofs.lemmas.List.Elements.{All-append, All-drop, All-head, All-nil, All-tail, All-take}
use Rattle.std.proofs.lemmas.Bool.{le-leb, lt-leb}
use Rattle.ag_value.proofs.Layers.{weight-Num, depth-Num, fault-Num, item-Num}
use Rattle.ag_value.specs.Spelling.{spelling_of}
use Rattle.ag_value.specs.Well.{IsWell, is_i64}
use Rattle.treefile.specs.records.Listed.{copied_count, copies_count, count_up_to}
use Rattle.treefile.proofs.records.Spelled.{spelled_apart}
use Rattle.treefile.specs.records.Records.{values_up_to}
use Rattle.treefile.proofs.records.Values.{count_of_values, values_well}
use Rattle.pass_rows.specs.declared.reading.record.RecordFault.{RecordFault}
use Rattle.pass_rows.specs.reading.Reading.{AllWell, IsBodyOf, IsNodeBody, IsNodeRead, IsNoNode, IsNoNodeBody}
use Rattle.pass_rows.specs.reading.Reading.{IsTaken, PrependsTo, one_value}
use Rattle.pass_rows.specs.Places.{Table, copies}

-- A signed number of 64 bits is well.
pub number_well : (z : ℤ) → mag z < 2 ^ 63 → IsWell (Num z)
number_well z small =
    record {
      formed = cc (fault-Num z, item-Num z, signed z small);
      shallow = omega (arith, depth-Num);
      light = omega (arith, weight-Num);
    }
  where
    signed : (z : ℤ) → mag z < 2 ^ 63 → is_i64 z ≡ true
    signed (pos n) less = search rules
    signed (negsuc n) less = search rules

-- 0 is well.
zero_well : IsWell (Num (pos 0))
zero_well = number_well (pos 0) (omega arith)

-- Nothing is taken from the bytes for an attribute of this pass or a later one.
none_read : {k pass : ℕ} {bytes : List ℕ} {old new : List Value} → 1 ≤ k → k ≤ pass
    → new ≡ old ++ one_value k pass (Num (pos 0)) → IsTaken (k - 1) k pass bytes bytes old new
none_read {k} {pass} one le row =
    let r : nat_le pass (k - 1) ≡ false = lt-leb pass (k - 1) (omega arith) in
    record {
      value = Num (pos 0);
      well = zero_well;
      row = row;
      spelled = rw r refl;
      only = λ w others well is. sym (rw r at is);
    }

-- 0 is appended as a placeholder for an attribute of the pass.
pub taken_place : {k pass : ℕ} {bytes : List ℕ} {old new : List Value} → 1 ≤ k → pass ≡ k → new ≡ old ++ Num (pos 0) ∷ []
    → IsTaken (k - 1) k pass bytes bytes old new
taken_place {k} {pass} one same row = none_read one (omega arith) (rw (le-leb pass k (omega arith)) row)

-- Nothing is taken for an attribute of a later pass.
pub taken_later : {k pass : ℕ} {bytes : List ℕ} {old : List Value} → 1 ≤ k → k < pass
    → IsTaken (k - 1) k pass bytes bytes old old
taken_later {k} {pass} one more = none_read one (omega arith) (rw (lt-leb pass k more, append-nil))

-- The value that the bytes begin with is taken for an attribute of an earlier pass.
pub taken_value : {k pass : ℕ} {bytes rest : List ℕ} {v : Value} {old new : List Value} → pass < k → IsWell v
    → bytes ≡ spelling_of v ++ rest → new ≡ old ++ v ∷ [] → IsTaken (k - 1) k pass bytes rest old new
taken_value {k} {pass} {bytes} {rest} {v} less well is row =
    let r : nat_le pass (k - 1) ≡ true = le-leb pass (k - 1) (omega arith) in
    record {
      value = v;
      well = well;
      row = rw (le-leb pass k (omega arith)) row;
      spelled = rw (r, append-nil) is;
      only = λ x others x_well same. (spelled_apart x v others rest x_well well (cc (rw (r, append-nil) at same))).1;
    }

-- The values f of attributes, with one more value v before them.
abbrev cons : Value → (ℕ → Value) → ℕ → Value
cons v f zero = v
cons v f (suc a) = f a

cons_well : {v : Value} {f : ℕ → Value} → IsWell v → ((a : ℕ) → IsWell (f a)) → (a : ℕ) → IsWell (cons v f a)
cons_well h g zero = h
cons_well h g (suc a) = g a

-- After one more value was taken, the new list begins with what the old one begins with.
pub occur_on : {read write p : ℕ} {bytes rest : List ℕ} (old : List Value) {now new : List Value}
    → IsTaken read write p bytes rest now new → PrependsTo old now → PrependsTo old new
occur_on {write = write} {p = p} old one prefix =
    let more = one_value write p one.value in
    (prefix.0 ++ more, cc (one.row, prefix.1, append_assoc old prefix.0 more))

-- One more value of a row was taken from the bytes, that of attribute i.
module _ {read write : ℕ} (ps : List ℕ) (i : ℕ) {bytes rest : List ℕ} {old mid : List Value} (less : i < length ps)
    (one : IsTaken read write (get_or ps i 0) bytes rest old mid) where
  pub more_taken : {left : List ℕ} {new : List Value} → AreTaken read write (drop (i + 1) ps) rest left mid new
      → AreTaken read write (drop i ps) bytes left old new
  more_taken more = rw (drop_more ps i 0)
      (record {
        values = cons one.value more.values;
        well = cons_well one.well more.well;
        row = rw (more.row, one.row, append_assoc);
        spelled = rw (one.spelled, more.spelled, flat_map-append, append_assoc);
        only = λ h others well is.
            more.only (λ a. h (suc a)) others (λ a. well (suc a))
            (sym (one.only (h 0) _ (well 0) (rw (flat_map-append, append_assoc) at is)));
      })

  -- Bytes are not a row if the bytes after the first value are not a row of the other values.
  pub others_no_row : IsNoRow read (drop (i + 1) ps) rest → IsNoRow read (drop i ps) bytes
  others_no_row none = rw (drop_more ps i 0)
      (λ h well is. none (λ a. h (suc a)) (λ a. well (suc a)) (sym (one.only (h 0) _ (well 0) (rw flat_map-append at is))))

-- After the last attribute, no values are taken.
pub none_taken : {read write : ℕ} (ps : List ℕ) (i : ℕ) {bytes left : List ℕ} {vs : List Value} → length ps ≤ i → bytes ≡ left
    → AreTaken read write (drop i ps) bytes left vs vs
none_taken ps i past is =
    rw (drop_all i ps)
    (record {
      values = λ a. Num (pos 0);
      well = λ a. zero_well;
      row = rw append-nil;
      spelled = is;
      only = λ h others well same. cc;
    })

-- No bytes are left after a row.
pub no_row_left : (read : ℕ) (ps : List ℕ) (i : ℕ) (bytes : List ℕ) → length ps ≤ i → (length bytes ≡ 0 → ⊥)
    → IsNoRow read (drop i ps) bytes
no_row_left read ps i bytes past some = rw (drop_all i ps) (λ h well is. some (ap length is))

-- The values e at items, with those (f) at one more item before them.
abbrev pub first_row : (ℕ → Value) → Table → Table
first_row f e zero = f
first_row f e (suc j) = e j

first_well : {f : ℕ → Value} {e : Table} → ((a : ℕ) → IsWell (f a)) → AllWell e → AllWell (first_row f e)
first_well g h zero a = g a
first_well g h (suc j) a = h j a

-- g has the values of attributes with passes ps, and then of others: the values of the others.
parted : (ps : List ℕ) (g : ℕ → Value) → ((a : ℕ) → IsWell (g a)) → (h : ℕ → Value) × ((a : ℕ) → IsWell (h a))
    × ((k : ℕ) (qs : List ℕ) → values_up_to k (ps ++ qs) g ≡ values_up_to k ps g ++ values_up_to k qs h)
parted [] g well = (g, well, λ k qs. refl)
parted (p ∷ ps) g well =
    let on = parted ps (λ a. g (suc a)) (λ a. well (suc a)) in
    (on.0, on.1, λ k qs. rw (on.2 k qs, append_assoc))

-- The copies g at some items, as a table.
parted_copies : (c : Setting) (xs : List Item) (g : ℕ → Value) → ((a : ℕ) → IsWell (g a))
    → (e : Table) × AllWell e × ((k : ℕ) → values_up_to k (flat_map (copied_passes c) xs) g ≡ copies c k xs e)
parted_copies c [] g well = ((λ j. g), (λ j. well), λ k. refl)
parted_copies c (x ∷ xs) g well =
    let others = parted (copied_passes c x) g well in
    let on = parted_copies c xs others.0 others.1 in
    (first_row g on.0, first_well well on.1, λ k. rw (others.2 k (flat_map (copied_passes c) xs), on.2 k))

-- Attributes with passes ps have well values, of which those up to pass k are vs.
abbrev Valued : ℕ → List ℕ → List Value → Type 0
Valued k ps vs = (f : ℕ → Value) × ((a : ℕ) → IsWell (f a)) × (values_up_to k ps f ≡ vs)

-- The values f of attributes with passes ps, and then the values of others.
joined : (k : ℕ) (ps qs : List ℕ) (f : ℕ → Value) (ws : List Value) → ((a : ℕ) → IsWell (f a)) → Valued k qs ws
    → Valued k (ps ++ qs) (values_up_to k ps f ++ ws)
joined k [] qs f ws well others = others
joined k (p ∷ ps) qs f ws well others =
    let on = joined k ps qs (λ a. f (suc a)) ws (λ a. well (suc a)) others in
    (cons (f 0) on.0, cons_well (well 0) on.1, rw (on.2, append_assoc))

-- The copies at some items, from a table: the converse of `parted_copies`.
joined_copies : (c : Setting) (k : ℕ) (xs : List Item) (e : Table) → AllWell e
    → Valued k (flat_map (copied_passes c) xs) (copies c k xs e)
joined_copies c k [] e well = (e 0, well 0, refl)
joined_copies c k (x ∷ xs) e well =
    joined k (copied_passes c x) _ (e 0) _ (well 0) (joined_copies c k xs (λ j. e (suc j)) (λ j. well (suc j)))

-- Literals have no copies.
passes_stored : (c : Setting) (xs : List Item) → flat_map (copied_passes c) xs ≡ flat_map (copied_passes c) (stored_items xs)
passes_stored c [] = refl
passes_stored c (item.Symbol s ∷ xs) = rw (passes_stored c xs)
passes_stored c (item.Terminal (Class d) ∷ xs) = rw (passes_stored c xs)
passes_stored c (item.Terminal (Literal l) ∷ xs) = passes_stored c xs

-- The record of a node was read: its body has the number of a production of the symbol, and a row with the
-- node's own values and the copies was taken from the bytes after it.
pub row_read : {c : Setting} {s p : ℕ} {body spellings passes : List ℕ} {old new : List Value}
    (b : IsBodyOf c.grammar s p spellings body) → passes ≡ row_passes c b.production
    → AreTaken c.read c.write passes spellings [] old new → IsNodeRead c s p body old new
row_read {c} b same all =
    let q = b.production in
    let taken = rw (same, passes_stored c q.items) at all in
    let others = parted (c.passes q.left) taken.values taken.well in
    let e = parted_copies c (stored_items q.items) others.0 others.1 in
    record {
      production = q;
      there = b.there;
      left = b.left;
      values = taken.values;
      well = taken.well;
      table = e.0;
      table_well = e.1;
      row = cc (taken.row, others.2 c.write (flat_map (copied_passes c) (stored_items q.items)), e.2 c.write, b.left);
      same = rw (b.same, taken.spelled, append-nil, others.2, e.2, b.there);
    }

pub node_read : {c : Setting} {s p : ℕ} {body spellings passes : List ℕ} {old new : List Value}
    (b : IsNodeBody c.grammar s p spellings body) → passes ≡ row_passes c b.production
    → AreTaken c.read c.write passes spellings [] old new → IsNodeRead c s p body old new
node_read b = row_read (record { production = b.production; there = b.there; left = b.left; same = b.same })

-- A body that is not a node's body is not a node's record.
pub no_node : (c : Setting) (s : ℕ) (body : List ℕ) → length c.grammar.productions ≤ 65536 → IsNoNodeBody c.grammar s body
    → IsNoNode c s body
no_node c s body few nothing p q h e there left well table_well same =
    nothing p q _ there left (omega (arith, slice_get_within c.grammar.productions p q there)) same

-- If no values can be taken, the body is not that of a node.
pub no_node_read : (c : Setting) {s p : ℕ} {body spellings passes : List ℕ} → length c.grammar.productions ≤ 65536
    → (b : IsNodeBody c.grammar s p spellings body) → passes ≡ row_passes c b.production → IsNoRow c.read passes spellings
    → IsNoNode c s body
no_node_read c few b same nothing r w h e there left well table_well is =
    let q = b.production in
    let one = b.only r _ (omega (arith, slice_get_within c.grammar.productions r w there)) is in
    let found : w ≡ q = cc (one.0, b.there) in
    let f = joined c.read (c.passes q.left) _ h _ well (joined_copies c c.read (stored_items q.items) e table_well) in
    nothing f.0 f.1 (cc (one.1, found, there, same, passes_stored c q.items, f.2))

-- A list of well values is the values of attributes if its length is their number of passes up to k.
valued : (k : ℕ) (ps : List ℕ) (vs : List Value) → length vs ≡ count_up_to k ps → All IsWell vs → Valued k ps vs
valued k [] vs long well = ((λ a. Num (pos 0)), (λ a. zero_well), sym (nil_from_length vs long))
valued k (p ∷ ps) vs long well = go (nat_le p k) refl (valued k ps) vs long well
  where
    go : (b : Bool) → nat_le p k ≡ b
        → ((vs : List Value) → length vs ≡ count_up_to k ps → All IsWell vs → Valued k ps vs) → (vs : List Value)
        → length vs ≡ (if b then 1 else 0) + count_up_to k ps → All IsWell vs → Valued k (p ∷ ps) vs
    go true z on [] long well = absurd (omega arith)
    go true z on (v ∷ vs) long well =
        let r = on vs (omega arith) (All-tail IsWell v vs well) in
        (cons v r.0, cons_well (All-head IsWell v vs well) r.1, rw (z, r.2))
    go false z on vs long well =
        let r = on vs (omega arith) well in (cons (Num (pos 0)) r.0, cons_well zero_well r.1, rw (z, r.2))

-- Values that are well up to a pass, and others in the place of later ones.
pub mended : (k : ℕ) (ps : List ℕ) (f : ℕ → Value) → ((a p : ℕ) → slice_get ps a ≡ Some p → p ≤ k → IsWell (f a))
    → (h : ℕ → Value) × ((a : ℕ) → IsWell (h a)) × (values_up_to k ps f ≡ values_up_to k ps h)
mended k ps f well =
    let r = valued k ps (values_up_to k ps f) (count_of_values k ps f) (values_well k ps f well) in (r.0, r.1, sym r.2)

-- The number of an item's copies. By `tabled`, a list of well values is the copies of some items if it has as many elements.
pub count_copied : (c : Setting) (k : ℕ) (x : Item) → copied_count c.grammar c.passes k x ≡ count_up_to k (copied_passes c x)
count_copied c k (item.Symbol s) = refl
count_copied c k (item.Terminal (Class d)) = grind (arith, nat_tests)
count_copied c k (item.Terminal (Literal l)) = refl

pub tabled : (c : Setting) (k : ℕ) (xs : List Item) (vs : List Value) → length vs ≡ copies_count c.grammar c.passes k xs
    → All IsWell vs → (e : Table) × AllWell e × (copies c k xs e ≡ vs)
tabled c k [] vs long well = ((λ j a. Num (pos 0)), (λ j a. zero_well), sym (nil_from_length vs long))
tabled c k (x ∷ xs) vs long well =
    let n = copied_count c.grammar c.passes k x in
    let first =
    valued k (copied_passes c x) (take n vs) (omega (arith, count_copied c k x, length-take n vs))
    (All-take IsWell n vs well) in
    let on = tabled c k xs (drop n vs) (omega (arith, length-drop n vs)) (All-drop IsWell n vs well) in
    (first_row first.0 on.0, first_well first.1 on.1, rw (first.2, on.2, take-append-drop))

-- The copies that a table has for some items are as many as `copies_count` counts, and are well.
pub copies_counted : (c : Setting) (k : ℕ) (xs : List Item) (e : Table)
    → length (copies c k xs e) ≡ copies_count c.grammar c.passes k xs
copies_counted c k [] e = refl
copies_counted c k (x ∷ xs) e =
    omega (
      arith,
      length-append {A = Value},
      count_of_values k (copied_passes c x) (e 0),
      count_copied c k x,
      copies_counted c k xs (λ j. e (suc j)),
    )

pub copies_well : (c : Setting) (k : ℕ) (xs : List Item) (e : Table) → AllWell e → All IsWell (copies c k xs e)
copies_well c k [] e well = All-nil IsWell
copies_well c k (x ∷ xs) e well =
    All-append IsWell (values_up_to k (copied_passes c x) (e 0)) (copies c k xs (λ j. e (suc j)))
    (values_well k (copied_passes c x) (e 0) (λ a p is le. well 0 a))
    (copies_well c k xs (λ j. e (suc j)) (λ j. well (suc j)))

-- A fault is the same for each type of result.
pub same_err : {A B : Type 0} (e f : RecordFault) → ◌≡◌ {A = Result A RecordFault} (Err e) (Err f)
    → ◌≡◌ {A = Result B RecordFault} (Err e) (Err f)
same_err e f is = cc

pub empty_is : {X : Type 0} (xs : List X) → length xs < 1 → xs ≡ []
empty_is xs h = drop_all 0 xs (omega arith)

-- Moving the passes of item i from the beginning of the rest to the end of `prefix` does not change the whole list.
pub passes_more : (f : Item → List ℕ) (prefix : List ℕ) {more new whole : List ℕ} {xs ys : List Item} (i : ℕ) (d : Item)
    → xs ≡ ys → i < length xs → prefix ++ flat_map f (drop i ys) ≡ whole → more ≡ f (get_or xs i d) → new ≡ prefix ++ more
    → new ++ flat_map f (drop (i + 1) ys) ≡ whole
passes_more f prefix {xs = xs} i d same less is one put =
    cc (drop_more xs i d less, append_assoc prefix (f (get_or xs i d)) (flat_map f (drop (i + 1) xs)))

pub passes_whole : (f : Item → List ℕ) (prefix : List ℕ) {whole : List ℕ} {xs ys : List Item} (i : ℕ) → xs ≡ ys → length xs ≤ i
    → prefix ++ flat_map f (drop i ys) ≡ whole → prefix ≡ whole
passes_whole f prefix {xs = xs} i same past is = cc (drop_all i xs past, append-nil prefix)

-- A production found by its number is the one with this number.
pub production_is : (qs lent : List Production) (n : ℕ) (q found d : Production) → lent ≡ qs → found ≡ get_or lent n d
    → slice_get qs n ≡ Some q → found ≡ q
production_is qs lent n q found d same is there = cc (get_or_from_slice_get qs n q d there)

-- Bytes that begin with 0.
pub tagged : (bytes : List ℕ) → 1 ≤ length bytes → get_or bytes 0 0 ≡ 0 → bytes ≡ 0 ∷ take (length bytes - 1) (drop 1 bytes)
tagged bytes some is = cc (take_rest bytes 1, drop_more bytes 0 0 some)
