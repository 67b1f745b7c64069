-- What follows from an accepted grammar and a legal assignment for a production, and so for its lists.
use Rattle.passcode.proofs.Common
use Common.{ℕ, ◌≡◌, ◌≤◌, Option, Some, None, slice_get, length, refl, arith, length-append, Item, Production}
use Common.{Literal, Class, Grammar, item_at, Passes, IsLegal, item_passes, IsPlanned, AreGeneratedLists}
use Common.{generated_list, Lists}
use Common.item
use Rattle.std.proofs.lemmas.List.{length-map}
use Rattle.ag_grammar.specs.declared.grammar.Symbol.{Symbol}
use Rattle.ag_grammar.specs.grammars.Accepted.{IsAccepted, max_attributes}
use Rattle.ag_grammar.specs.grammars.AttributeGrammar.{IsProduction, attribute_names}
use Rattle.ag_grammar.specs.grammars.AttributeGrammar.{symbol_kinds}
use Rattle.passassign.proofs.slots.Few.{few_rules}
use Rattle.passcode.specs.Agreement.{Agrees}
use Rattle.passcode.specs.Laws.{ListsRun}
use Rattle.passcode.proofs.Agreeing.{agrees}
use Rattle.passcode.proofs.Following.{follows}
use Rattle.passcode.proofs.Leaving.{list_runs}

module _ (g : Grammar) (m : Passes) (accepted : IsAccepted g) (legal : IsLegal g m) where
  few_kinds : (s : Option Symbol) → ((x : Symbol) → s ≡ Some x → length (attribute_names x) ≤ max_attributes)
      → length (symbol_kinds s) ≤ max_attributes
  few_kinds None few = omega arith
  few_kinds (Some x) few = simp (length-append, length-map) (simp length-append at (few x refl))

  few_attributes : (o : Option Item) → length (item_passes m o) ≤ max_attributes
  few_attributes None = omega arith
  few_attributes (Some (item.Symbol s)) =
      omega (arith, legal.whole s, few_kinds (slice_get g.symbols s) (accepted.limits.attribute_count s))
  few_attributes (Some (item.Terminal (Class c))) = omega arith
  few_attributes (Some (item.Terminal (Literal l))) = omega arith

  pub planned : (p : ℕ) (q : Production) → IsProduction g p q → IsPlanned m q
  planned p q is = record {
    places = accepted.limits.stored_count p q is;
    rules = few_rules g accepted p q is;
    attributes = λ j. few_attributes (item_at q j);
    single = (accepted.complete p q is).single;
    allowed = legal.allowed p q is;
  }

  pub lists_agree : (code : Lists) → AreGeneratedLists g m code → Agrees g m code
  lists_agree code are p k q xs is at =
      let known = planned p q is in
      rw (are p k q xs is at)
      (agrees m q k (generated_list m q k) at.0 (list_runs m q k at.0 known.single known.allowed))

pub lists_run : ListsRun
lists_run g m p k q xs accepted legal is one =
    let known = planned g m accepted legal p q is in (
      follows m q k xs one known.allowed,
      agrees m q k xs one,
    )
