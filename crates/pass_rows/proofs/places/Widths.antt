-- Bounds on the places and attributes of a production, by an accepted grammar and a legal assignment.
use Rattle.pass_rows.proofs.Common
use Common.{ℕ, zero, suc, ◌≡◌, ◌+◌, ◌<◌, ◌≤◌, List, [], ◌∷◌, Some, slice_get, length, arith, Item, Production, Target, Literal}
use Common.{Class, max_children, item_at, stored_items, places_of, few_counted, Setting, copied_passes, copied_all, copied_width}
use Common.{stored_width, AreWithin, AreSmall, get_or}
use Common.item
use Rattle.std.proofs.Common.{inl, inr}
use Rattle.std.proofs.lemmas.Option.{slice_get_cases}
use Rattle.passcode.proofs.Slices.{read_at}
use Rattle.ag_grammar.specs.grammars.AttributeGrammar.{Grammar, HasKind, Kind, used_kind, defined_kind, item_kinds, IsProduction}
use Rattle.treefile.proofs.records.Fitting.{few_passes, fits_version_two}
use Rattle.passcode.specs.Sound.{IsSound}
use Rattle.ag_grammar.specs.grammars.Accepted.{IsAccepted}
use Rattle.ag_grammar.specs.grammars.Passes.{IsLegal, Passes}
use Rattle.treefile.specs.records.Records.{max_copied, max_copies}
use Rattle.treefile.specs.records.TreeFile.{version_two}

-- No symbol has more attributes than a grammar allows.
pub are_small : {g : Grammar} {m : Passes} → IsAccepted g → IsLegal g m → AreSmall m
are_small {g} {m} accepted legal s = few_passes g m s accepted legal

-- An existing attribute is at an existing place.
place_within : (g : Grammar) (q : Production) (o : Target) (k : Kind) → HasKind g q o k → o.place < length (places_of q)
place_within g q o k is = go o.place is
  where
    go : (j : ℕ) → slice_get (item_kinds g (item_at q j)) o.attr ≡ Some k → j < length (places_of q)
    go zero e = omega arith
    go (suc j) e =
        elim (slice_get_cases (stored_items q.items) j).1 [
          | inl found ↦ omega (arith, found.1)
          | inr past ↦ let none = rw past.1 at e in absurd (cc)
        ]

-- A production that is read from the list of an accepted grammar.
module _ {g : Grammar} (accepted : IsAccepted g) {qs : List Production} (p : ℕ) {q : Production} (lent : qs ≡ g.productions)
    (less : p < length qs) (is : q ≡ get_or qs p q) where
  pub few_places : length (places_of q) ≤ max_children + 1
  few_places = omega (arith, accepted.limits.stored_count p q (read_at g.productions qs p q lent less is))

  pub are_within : AreWithin (length (places_of q)) q.rules
  are_within r u at =
      let there = read_at g.productions qs p q lent less is in
      record {
        target = place_within g q u.target (defined_kind u.target.place) ((accepted.complete p q there).no_other r u at);
        args = λ i o arg. place_within g q o (used_kind o.place) (accepted.normal p q there r u at i o arg);
      }

-- No row has more values than a record may have.
pub few_values : (c : Setting) → IsSound c → (p : ℕ) (q : Production) → IsProduction c.grammar p q
    → stored_width c q ≤ version_two.max_values
few_values c sound p q there =
    omega (
      arith,
      (fits_version_two c.grammar c.passes sound.accepted sound.legal).1.nodes p q there,
      few_counted c.write (c.passes q.left),
      few_copies (stored_items q.items),
    )
  where
    few_item : (x : Item) → copied_width c x ≤ max_copied c.grammar c.passes x
    few_item (item.Symbol s) = few_counted c.write (copied_passes c (item.Symbol s))
    few_item (item.Terminal (Class d)) = few_counted c.write (0 ∷ [])
    few_item (item.Terminal (Literal l)) = omega arith

    few_copies : (xs : List Item) → copied_all c xs ≤ max_copies c.grammar c.passes xs
    few_copies [] = omega arith
    few_copies (x ∷ xs) = omega (arith, few_item x, few_copies xs)
