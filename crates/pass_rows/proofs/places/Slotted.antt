-- The slots according to the `PlaceRow`s are the slots of the rules.
use Rattle.pass_rows.proofs.Common
use Common.{ℕ, zero, suc, ◌≡◌, ◌+◌, ◌*◌, ◌<◌, ◌≤◌, List, [], ◌∷◌, Some, map, slice_get, length, refl, ap, arith, length-take}
use Common.{Item, Production, Rule, Target, Literal, Class, max_children, item_at, places_of, stored_items, few_counted, Setting}
use Common.{ProductionRow, PlaceRow, RuleSlots, copied_passes, row_passes, argument_slot, copied_before, copied_width, copy_start}
use Common.{own_width, stored_width, AreWithin, argument_slot_by, item_in, place_rows, production_row, rows_after, rule_slots}
use Common.{rule_slots_by, start_in, AreSmall}
use Common.item
use Rattle.passcode.specs.declared.instr.Instr.{Instr}
use Rattle.ag_grammar.specs.grammars.Accepted.{max_attributes}
use Rattle.treefile.specs.records.Records.{synthesized_count}
use Rattle.passcode.specs.Settings.{list_at}
use Rattle.pass_rows.specs.layouts.BuiltLayouts.{IsWithin}
use Rattle.pass_rows.specs.layouts.Starts.{AreLow}

items_after : (c : Setting) (start : ℕ) (xs : List Item) (b : ℕ) → item_in (rows_after c start xs) b ≡ slice_get xs b
items_after c start [] b = refl
items_after c start (x ∷ xs) zero = refl
items_after c start (x ∷ xs) (suc b) = items_after c (start + copied_width c x) xs b

starts_after : (c : Setting) (start : ℕ) (xs : List Item) (b : ℕ) → b < length xs
    → start_in (rows_after c start xs) b ≡ start + copied_before c xs b
starts_after c start [] b less = absurd (omega arith)
starts_after c start (x ∷ xs) zero less = omega arith
starts_after c start (x ∷ xs) (suc b) less = omega (arith, starts_after c (start + copied_width c x) xs b (omega arith))

length_after : (c : Setting) (start : ℕ) (xs : List Item) → length (rows_after c start xs) ≡ length xs
length_after c start [] = refl
length_after c start (x ∷ xs) = ap suc (length_after c (start + copied_width c x) xs)

pub rows_long : (c : Setting) (q : Production) → length (place_rows c q) ≡ length (places_of q)
rows_long c q = ap suc (length_after c (own_width c q) (stored_items q.items))

-- An item has no more copies than a symbol has attributes.
pub copied_few : (c : Setting) (x : Item) → AreSmall c.passes → length (copied_passes c x) ≤ max_attributes
copied_few c (item.Symbol s) small =
    omega (arith, small s, length-take (synthesized_count (slice_get c.grammar.symbols s)) (c.passes s))
copied_few c (item.Terminal (Class d)) small = omega arith
copied_few c (item.Terminal (Literal l)) small = omega arith

-- There are at most 16 copies for each item.
starts_low : (c : Setting) (start : ℕ) (xs : List Item) (b : ℕ) → AreSmall c.passes
    → start_in (rows_after c start xs) b ≤ start + 16 * length xs
starts_low c start [] b small = omega arith
starts_low c start (x ∷ xs) zero small = omega arith
starts_low c start (x ∷ xs) (suc b) small =
    omega (
      arith,
      few_counted c.write (copied_passes c x),
      copied_few c x small,
      starts_low c (start + copied_width c x) xs b small,
    )

pub rows_low : (c : Setting) (q : Production) → AreSmall c.passes → length (places_of q) ≤ max_children + 1
    → AreLow (place_rows c q)
rows_low c q small few zero = omega arith
rows_low c q small few (suc b) =
    omega (
      arith,
      few_counted c.write (c.passes q.left),
      small q.left,
      starts_low c (own_width c q) (stored_items q.items) b small,
    )

map_same : {A B : Type 0} (f g : A → B) (xs : List A) → ((i : ℕ) (x : A) → slice_get xs i ≡ Some x → f x ≡ g x)
    → map f xs ≡ map g xs
map_same f g [] same = refl
map_same f g (x ∷ xs) same = rw (same 0 x refl, map_same f g xs (λ i. same (suc i)))

module _ (c : Setting) (q : Production) where
  abbrev rows : List PlaceRow
  rows = place_rows c q

  item_same : (j : ℕ) → item_in rows j ≡ item_at q j
  item_same zero = refl
  item_same (suc b) = items_after c (own_width c q) (stored_items q.items) b

  start_same : (j : ℕ) → j < length (places_of q) → start_in rows j ≡ copy_start c q j
  start_same zero less = refl
  start_same (suc b) less = starts_after c (own_width c q) (stored_items q.items) b (omega arith)

  argument_same : (o : Target) → o.place < length (places_of q)
      → argument_slot_by c.passes c.write rows o ≡ argument_slot c q o.place o.attr
  argument_same o less = rw (start_same o.place less, item_same o.place)

  rule_same : (u : Rule) → IsWithin (length (places_of q)) u
      → rule_slots_by c.passes c.write (stored_width c q) rows u ≡ rule_slots c q u
  rule_same u within =
      rw (item_same u.target.place, map_same _ _ u.args (λ i o at. argument_same o (within.args i o at)))

-- A `ProductionRow` with equal parts is the layout of the production.
pub row_is : (c : Setting) (p : ℕ) (q : Production) {list : List Instr} {width : ℕ} {passes : List ℕ} {places : List PlaceRow}
    {rules : List RuleSlots} → list ≡ list_at c p → width ≡ stored_width c q → passes ≡ row_passes c q → places ≡ place_rows c q
    → AreWithin (length (places_of q)) q.rules → rules ≡ map (rule_slots_by c.passes c.write width places) q.rules
    → ◌≡◌ {A = ProductionRow} (record { list = list; width = width; passes = passes; places = places; rules = rules })
    (production_row c p q)
row_is c p q a b d e within is =
    rw (a, is, b, d, e, map_same _ (rule_slots c q) q.rules (λ i u at. rule_same c q u (within i u at)))
