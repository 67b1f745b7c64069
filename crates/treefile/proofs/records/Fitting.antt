-- An accepted grammar has few enough productions, and under a legal assignment its records have few enough values.
use Rattle.treefile.proofs.Common
use Common.{◌≡◌, ℕ, ◌*◌, ◌≤◌, List, [], ◌∷◌, length, map, Option, Some, None, slice_get, refl, arith, length-append, length-take}
use Common.{length-map, Item, Literal, Class, Grammar, stored_items, IsLegal, Passes, IsNumbered, max_copied, max_copies}
use Common.{synthesized_count, version_one, version_two}
use Common.item
use Rattle.ag_grammar.specs.declared.grammar.Symbol.{Symbol}
use Rattle.ag_grammar.specs.grammars.Accepted.{IsAccepted}
use Rattle.ag_grammar.specs.grammars.AttributeGrammar.{Synthesized, Inherited, symbol_kinds}
use Rattle.treefile.specs.Laws.{FitsAccepted}

-- a symbol has at most 16 attributes
few_kinds : (g : Grammar) (s : ℕ) → IsAccepted g → (o : Option Symbol) → slice_get g.symbols s ≡ o → length (symbol_kinds o) ≤ 16
few_kinds g s accepted None e = omega arith
few_kinds g s accepted (Some y) e =
    let few = accepted.limits.attribute_count s y e in
    let all = length-append (map (λ (n : List ℕ). Synthesized) y.syn) (map (λ (n : List ℕ). Inherited) y.inh) in
    omega (
      arith,
      all,
      length-map y.syn (λ (n : List ℕ). Synthesized),
      length-map y.inh (λ (n : List ℕ). Inherited),
      length-append y.syn y.inh,
    )

-- under a legal assignment the row of a symbol has at most 16 passes, one for each attribute
pub few_passes : (g : Grammar) (m : Passes) (s : ℕ) → IsAccepted g → IsLegal g m → length (m s) ≤ 16
few_passes g m s accepted legal = omega (arith, few_kinds g s accepted (slice_get g.symbols s) refl, legal.whole s)

-- the copy of one child has at most 16 values
few_copied : (g : Grammar) (m : Passes) (x : Item) → IsAccepted g → IsLegal g m → max_copied g m x ≤ 16
few_copied g m (item.Symbol s) accepted legal =
    omega (arith, length-take (synthesized_count (slice_get g.symbols s)) (m s), few_passes g m s accepted legal)
few_copied g m (item.Terminal (Class c)) accepted legal = omega arith
few_copied g m (item.Terminal (Literal l)) accepted legal = omega arith

few_copies : (g : Grammar) (m : Passes) (xs : List Item) → IsAccepted g → IsLegal g m → max_copies g m xs ≤ length xs * 16
few_copies g m [] accepted legal = omega arith
few_copies g m (x ∷ xs) accepted legal = omega (arith, few_copied g m x accepted legal, few_copies g m xs accepted legal)

-- a record can number the productions of an accepted grammar
pub numbered : (g : Grammar) → IsAccepted g → IsNumbered g
numbered g accepted = omega (arith, accepted.limits.production_count)

-- a record of an accepted grammar has no more values than either version allows, under a legal assignment
pub fits_version_one : FitsAccepted version_one
fits_version_one g m accepted legal =
    (numbered g accepted, record { tokens = omega arith; nodes = λ p q is. few_passes g m q.left accepted legal })

pub fits_version_two : FitsAccepted version_two
fits_version_two g m accepted legal = (
  numbered g accepted,
  record {
    tokens = omega arith;
    nodes =
        λ p q is. omega (
          arith,
          accepted.limits.stored_count p q is,
          few_passes g m q.left accepted legal,
          few_copies g m (stored_items q.items) accepted legal,
        );
  },
)
