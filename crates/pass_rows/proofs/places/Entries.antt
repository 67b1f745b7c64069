-- The entries of a layout.
use Rattle.pass_rows.proofs.Common
use Common.{ℕ, zero, suc, ◌≡◌, ◌+◌, ◌<◌, List, [], ◌∷◌, Some, slice_get, get_or, length, refl, ◌∙◌, sym, arith, slice_get_within}
use Common.{Item, Production, Rule, Target, item_at, stored_items, Setting, PlaceRow, ProductionRow, RuleSlots, layout_of}
use Common.{place_rows, production_row, rows_after, rows_from, rule_slots, argument_slot, copied_before, copied_width, copy_start}
use Common.{own_width, get_or_from_slice_get}
use Common.item
use Rattle.std.proofs.lemmas.List.{length-map}
use Rattle.std.proofs.lemmas.Option.{same_Some, slice_get-map}
use Rattle.pass_rows.specs.layouts.Layouts.{AreSlotsOf, IsLayout, IsRowAt, IsRowOf}
use Rattle.pass_rows.specs.layouts.Slots.{known_width}

row_from : (c : Setting) (p n : ℕ) (qs : List Production) (i : ℕ) (q : Production) → p + i ≡ n → slice_get qs i ≡ Some q
    → slice_get (rows_from c p qs) i ≡ Some (production_row c n q)
row_from c p n [] i q is e = absurd (cc)
row_from c p n (r ∷ qs) zero q is e = let same : r ≡ q = cc in let first : p ≡ n = omega arith in rw (same, first)
row_from c p n (r ∷ qs) (suc i) q is e = row_from c (suc p) n qs i q (omega arith) e

-- The computed `ProductionRow` is the layout of its production.
is_row : (c : Setting) (p : ℕ) (q : Production) → IsRowOf c p q (production_row c p q)
is_row c p q = record {
  list = refl;
  width = refl;
  passes = refl;
  places = refl;
  slots = λ r u num. (
    rule_slots c q u,
    rw (slice_get-map, num),
    record {
      target = refl;
      args = record {
        equally_long = sym (length-map u.args (λ (o : Target). argument_slot c q o.place o.attr));
        each = λ i o n at at'. same_Some _ _ (sym (rw (slice_get-map, at) at at'));
      };
    },
  );
}

pub layouts : (c : Setting) → IsLayout c (layout_of c)
layouts c p q there =
    (production_row c p q, row_from c 0 p c.grammar.productions p q (omega arith) there, is_row c p q)

pub some_at : {X : Type 0} (xs : List X) (k : ℕ) → k < length xs → (x : X) × (slice_get xs k ≡ Some x)
some_at [] k h = absurd (omega arith)
some_at (x ∷ xs) zero h = (x, refl)
some_at (x ∷ xs) (suc k) h = some_at xs k (omega arith)

-- The list of layouts has a layout for each production. The layout of production number p is at index p.
pub row_less : (c : Setting) (rows : List ProductionRow) (p : ℕ) → IsLayout c rows → p < length c.grammar.productions
    → p < length rows
row_less c rows p layout less =
    let q = some_at c.grammar.productions p less in
    let row = layout p q.0 q.1 in
    slice_get_within rows p row.0 row.1

pub row_found : (c : Setting) (rows : List ProductionRow) (p : ℕ) (d : ProductionRow) → IsLayout c rows
    → IsRowAt c p (get_or rows p d)
row_found c rows p d layout q there =
    let row = layout p q there in rw (get_or_from_slice_get rows p row.0 d row.1) row.2

-- A layout has slots for each rule. The slots of rule number r are at index r.
pub slots_less : (c : Setting) (p r : ℕ) (q : Production) (u : Rule) (row : ProductionRow) (xs : List RuleSlots)
    → IsRowOf c p q row → slice_get q.rules r ≡ Some u → xs ≡ row.rules → r < length xs
slots_less c p r q u row xs is num same =
    let s = is.slots r u num in rw same (slice_get_within row.rules r s.0 s.1)

pub slots_found : (c : Setting) (p r : ℕ) (q : Production) (u : Rule) (row : ProductionRow) (xs : List RuleSlots)
    (slots : RuleSlots) → IsRowOf c p q row → slice_get q.rules r ≡ Some u → xs ≡ row.rules → slots ≡ get_or xs r slots
    → AreSlotsOf c q u slots
slots_found c p r q u row xs slots is num same at =
    let s = is.slots r u num in rw (at, same, get_or_from_slice_get row.rules r s.0 slots s.1) s.2

-- The `PlaceRow` of an item whose copies begin at an index.
abbrev row_of : Setting → ℕ → Item → PlaceRow
row_of c n x = record { item = x; start = n; width = copied_width c x; known = known_width c x }

-- The item at a place, and where its copies begin.
row_after : (c : Setting) (start n : ℕ) (xs : List Item) (b : ℕ) (x : Item) → start + copied_before c xs b ≡ n
    → slice_get xs b ≡ Some x → slice_get (rows_after c start xs) b ≡ Some (row_of c n x)
row_after c start n [] b x is at = absurd (cc)
row_after c start n (y ∷ xs) zero x is at = let same : y ≡ x = cc in let first : start ≡ n = omega arith in rw (same, first)
row_after c start n (y ∷ xs) (suc b) x is at = row_after c (start + copied_width c y) n xs b x (omega arith) at

place_found : (c : Setting) (q : Production) (b : ℕ) (x : Item) → slice_get (stored_items q.items) b ≡ Some x
    → slice_get (place_rows c q) (suc b) ≡ Some (row_of c (copy_start c q (suc b)) x)
place_found c q b x at = row_after c (own_width c q) _ (stored_items q.items) b x refl at

-- The `PlaceRow` at the place of a child is the child's.
pub place_is : (c : Setting) (q : Production) (j : ℕ) (row : PlaceRow) (x : Item) → 0 < j
    → Some row ≡ slice_get (place_rows c q) j → item_at q j ≡ Some x
    → (row.item ≡ x) × (row.start ≡ copy_start c q j) × (row.width ≡ copied_width c x) × (row.known ≡ known_width c x)
place_is c q zero row x some found at = absurd (omega arith)
place_is c q (suc b) row x some found at = rw (same_Some row _ (found ∙ place_found c q b x at)) (refl, refl, refl, refl)

-- A layout has a `PlaceRow` for the place of an item.
pub place_within : (c : Setting) (p : ℕ) (q : Production) (row : ProductionRow) (j : ℕ) (x : Item) → IsRowOf c p q row
    → item_at q j ≡ Some x → j < length row.places
place_within c p q row zero x is at = rw is.places (omega arith)
place_within c p q row (suc b) x is at = rw is.places (slice_get_within (place_rows c q) (suc b) _ (place_found c q b x at))
