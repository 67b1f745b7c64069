-- A production has few rules and a rule has few arguments: each is for a different attribute, and a
-- production has few places with few attributes each.
use Rattle.passassign.proofs.Common
use Common.{ℕ, zero, suc, ◌≡◌, ◌+◌, ◌*◌, ◌<◌, ◌≤◌, true, List, [], ◌∷◌, Option, Some, None, map, slice_get, get_or, length, inl}
use Common.{inr, refl, sym, eqb, arith, cases_order, length-map, slice_get_within, slice_get-get_or, Item, Production, Rule}
use Common.{Target, Literal, Class, IsAccepted, Grammar, IsProduction, IsRule, Kind, Synthesized, HasKind, RefersTo, used_kind}
use Common.{defined_kind, item_at, item_kinds, stored_items}
use Common.item
use Rattle.std.specs.List.{list_any, IsDistinct}
use Rattle.std.proofs.lemmas.Bool.Decides.{eqb_tells}
use Rattle.std.proofs.lemmas.Map.Keys.{IsDistinct-from_apart}
use Rattle.std.proofs.lemmas.Map.Steps.{length-le_from_distinct_below}
use Rattle.ag_grammar.specs.declared.syntax.occurrence.Occ.{Occ}
use Rattle.ag_grammar.specs.expressions.Occurrences.{AreDifferent}
use Rattle.closure.proofs.Positions.{mapped_at}
use Rattle.passassign.proofs.slots.Linked.{attribute_within, same_parts}

-- a number for a place and an attribute
abbrev slot : Target → ℕ
slot o = o.place * 16 + o.attr

-- these numbers for the members of a list, each of which belongs to an attribute at a place (`of`)
abbrev slots : {X : Type 0} → (X → Target) → List X → List ℕ
slots of xs = map (λ x. slot (of x)) xs

below : {X : Type 0} (of : X → Target) (ys : List X) → ((i : ℕ) (x : X) → slice_get ys i ≡ Some x → slot (of x) < 272) → (n : ℕ)
    → list_any (eqb n) (slots of ys) ≡ true → n < 272
below of [] h n e = cc
below of (y ∷ ys) h n e = elim (eqb_tells n (slot (of y))) [
  | inl same ↦ omega (arith, h 0 y refl)
  | inr other ↦ below of ys (λ i. h (suc i)) n (rw other.0 at e)
]

-- The list xs is short if each of its members belongs to a different attribute at a place. Places are at most 16, and the numbers
-- of attributes are below 16.
module _ {X : Type 0} (of : X → Target) (xs : List X)
    (single : (i j : ℕ) (x y : X) → slice_get xs i ≡ Some x → slice_get xs j ≡ Some y → of x ≡ of y → i ≡ j)
    (small : (i : ℕ) (x : X) → slice_get xs i ≡ Some x → ((of x).place ≤ 16) × ((of x).attr < 16)) where
  one : (i j : ℕ) (x y : X) → slice_get xs i ≡ Some x → slice_get xs j ≡ Some y → slot (of x) ≡ slot (of y) → i ≡ j
  one i j x y e f same =
      let a = (small i x e).1 in
      let b = (small j y f).1 in
      single i j x y e f (same_parts (of x) (of y) (omega arith) (omega arith))

  distinct : IsDistinct eqb (slots of xs)
  distinct = IsDistinct-from_apart eqb (slots of xs) (λ i j d less lt.
      let here = get_or (slots of xs) i d in
      let there = get_or (slots of xs) j d in
      let (x, at_x, is_x) = mapped_at (λ x. slot (of x)) xs i here (slice_get-get_or (slots of xs) i d (omega arith)) in
      let (y, at_y, is_y) = mapped_at (λ x. slot (of x)) xs j there (slice_get-get_or (slots of xs) j d lt) in
      elim (eqb_tells here there) [
        | inl same ↦ absurd (let both : i ≡ j = one i j x y at_x at_y (cc same.1) in omega arith)
        | inr other ↦ other.0
      ])

  few : length xs ≤ 65536
  few =
      let len =
      length-le_from_distinct_below (slots of xs) 272 distinct
      (below of xs (λ i x e. let s = small i x e in let a = s.0 in let b = s.1 in omega arith)) in
      let same = length-map xs (λ x. slot (of x)) in omega arith

module _ (g : Grammar) (accepted : IsAccepted g) (p : ℕ) (q : Production) (at : IsProduction g p q) where
  place_few : (j : ℕ) (x : Item) → item_at q j ≡ Some x → j ≤ 16
  place_few zero x e = omega arith
  place_few (suc j) x e = omega (arith, slice_get_within (stored_items q.items) j x e, accepted.limits.stored_count p q at)

  small_parts : (o : Target) (k : Kind) → HasKind g q o k → (o.place ≤ 16) × (o.attr < 16)
  small_parts o k is = go (item_at q o.place) refl is
    where
      lex : (a : ℕ) → slice_get (Synthesized ∷ []) a ≡ Some k → a < 16
      lex zero f = omega arith
      lex (suc a) f = cc

      go : (x : Option Item) → item_at q o.place ≡ x → slice_get (item_kinds g x) o.attr ≡ Some k → (o.place ≤ 16) × (o.attr < 16)
      go None f there = cc
      go (Some (item.Symbol s)) f there =
          (place_few o.place (item.Symbol s) f, (attribute_within g s o.attr accepted (k, there)).0)
      go (Some (item.Terminal (Class c))) f there = (place_few o.place (item.Terminal (Class c)) f, lex o.attr there)
      go (Some (item.Terminal (Literal l))) f there = cc

  pub few_rules : length q.rules ≤ 65536
  few_rules =
      few (λ r. r.target) q.rules (accepted.complete p q at).single
      (λ i r e. small_parts r.target (defined_kind r.target.place) ((accepted.complete p q at).no_other i r e))

  pub few_arguments : (r : Rule) → IsRule q r → AreDifferent r.expr.occurrences → length r.args ≤ 65536
  few_arguments r is different =
      few (λ o. o) r.args single (λ i o e. small_parts o (used_kind o.place) (accepted.normal p q at is.0 r is.1 i o e))
    where
      named : (i : ℕ) (x : Occ) (o : Target) → slice_get r.expr.occurrences i ≡ Some x → slice_get r.args i ≡ Some o
          → RefersTo g q x o
      named = (accepted.named.rules_named p q at is.0 r is.1).arguments.each

      long : length r.expr.occurrences ≡ length r.args
      long = (accepted.named.rules_named p q at is.0 r is.1).arguments.equally_long

      -- occurrences at two indices are of different attributes
      apart : (i j : ℕ) (o w : Target) → i < j → slice_get r.args i ≡ Some o → slice_get r.args j ≡ Some w → o ≡ w → ⊥
      apart i j o w less e f same =
          let within = slice_get_within r.args j w f in
          let d : Occ = record { place = 0; attr = []; at = 0 } in
          let x = get_or r.expr.occurrences i d in
          let y = get_or r.expr.occurrences j d in
          let first = named i x o (slice_get-get_or r.expr.occurrences i d (omega (arith, long))) e in
          let second = named j y w (slice_get-get_or r.expr.occurrences j d (omega (arith, long))) f in
          let places : x.place ≡ y.place = cc in
          let names : Some x.attr ≡ Some y.attr = cc in
          let attrs : x.attr ≡ y.attr = cc in
          different i j d less (omega (arith, long)) places attrs

      single : (i j : ℕ) (o w : Target) → slice_get r.args i ≡ Some o → slice_get r.args j ≡ Some w → o ≡ w → i ≡ j
      single i j o w e f same = elim (cases_order i j) [
        | inl both ↦ both
        | inr (inl less) ↦ absurd (apart i j o w less e f same)
        | inr (inr more) ↦ absurd (apart j i w o more f e (sym same))
      ]
