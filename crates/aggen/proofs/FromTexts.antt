-- The grammar that a text reads as has readable literals and known classes.
use Rattle.aggen.proofs.Common
use Common.{ℕ, zero, suc, ◌≡◌, ◌≤◌, ◌<◌, ◌==◌, Bool, true, false, not, cond, List, length, Option, Some, None, refl}
use Common.{subst, arith, and_parts, Each, IsSeparator, class_count, TextsAreReadable}
use Rattle.std.specs.List.{list_any}
use Rattle.std.proofs.lemmas.Bool.Decides.{nat_tests}
use Rattle.std.proofs.lemmas.List.Folds.{list_any_at}
use Rattle.std.proofs.lemmas.Option.{get_or_from_slice_get, slice_get_within}
use Rattle.ag_tokens.specs.PlacedToken.{PlacedToken}
use Rattle.ag_tokens.specs.GrammarToken.{GrammarToken}
use Rattle.ag_tokens.specs.GrammarToken as token
use Rattle.ag_tokens.specs.Tokens.{is_separator}
use Rattle.ag_grammar.specs.declared.raw.Named.{Named}
use Rattle.ag_grammar.specs.declared.raw.RawGrammar.{RawGrammar}
use Rattle.ag_grammar.specs.declared.raw.RawItem.{RawItem}
use Rattle.ag_grammar.specs.declared.raw.RawItem.TheVariants as raw_item
use Rattle.ag_grammar.specs.declared.raw.RawProduction.{RawProduction}
use Rattle.ag_tokens.specs.Languages.{Many, none, more}
use Rattle.ag_text.specs.Syntax.{IsProduction, IsGrammar, one}
use Rattle.ag_text.specs.Meanings.{class_of, class_or_name, is_literal, item_in, named, some_if}
use Rattle.normalform.specs.faults.Faults.{IsReadable, IsReadableItem}
use Rattle.normalform.proofs.found.Tested.{separator_is}

-- ---- a literal

no_separator : (bytes : List ℕ) → not (list_any is_separator bytes) ≡ true → Each (λ b. IsSeparator b → ⊥) bytes
no_separator bytes h i b e is =
    let same = get_or_from_slice_get bytes i b 0 e in
    let seen = list_any_at is_separator bytes i 0 (slice_get_within bytes i b e) (rw same (separator_is b is)) in
    absurd (cc (rw seen at h))

not_empty : (bytes : List ℕ) → not (length bytes == 0) ≡ true → 1 ≤ length bytes
not_empty bytes h = grind (arith, nat_tests)

of_literal : (bytes : List ℕ) (is : Bool) (x : RawItem) → is_literal bytes ≡ is → some_if is (raw_item.Literal bytes) ≡ Some x
    → IsReadableItem x
of_literal bytes false x is e = absurd cc
of_literal bytes true x is e =
    let same : raw_item.Literal bytes ≡ x = cc in
    let parts = and_parts (not (length bytes == 0)) (not (list_any is_separator bytes)) is in
    subst IsReadableItem same (not_empty bytes parts.0, no_separator bytes parts.1)

-- ---- a class

small : (a b c : Bool) (class : ℕ) → cond a (Some 0) (cond b (Some 1) (cond c (Some 2) None)) ≡ Some class → class < class_count
small a b c class e = grind arith

of_name : (o : Option ℕ) (name : Option Named) (x : RawItem) → ((class : ℕ) → o ≡ Some class → class < class_count)
    → class_or_name o name ≡ Some x → IsReadableItem x
of_name (Some class) name x known e = let same : raw_item.Class class ≡ x = cc in subst IsReadableItem same (known class refl)
of_name None (Some name) x known e = let same : raw_item.Name name ≡ x = cc in subst IsReadableItem same tt
of_name None None x known e = absurd cc

-- ---- items, productions, grammars

readable_sign : (at : ℕ) (t : GrammarToken) (x : RawItem) → item_in at t ≡ Some x → IsReadableItem x
readable_sign at (token.Name name) x e = of_name (class_of name) (named at name) x (small _ _ _) e
readable_sign at (token.Text bytes) x e = of_literal bytes (is_literal bytes) x refl e
readable_sign at t x e = absurd cc

readable_one : (ps : List PlacedToken) (x : RawItem) → one item_in ps x → IsReadableItem x
readable_one ps x (p, alone, is) = readable_sign p.at p.token x is

-- if what each part reads as has a property, each element of the list has it
all_of_many : {A : Type 0} {item : List PlacedToken → A → Type 0} (P : A → Type 0)
    → ((ps : List PlacedToken) (x : A) → item ps x → P x) → {ps : List PlacedToken} {xs : List A} → Many item ps xs → Each P xs
all_of_many P each none i x e = absurd cc
all_of_many P each (more us vs y ys first rest) zero x e = let same : y ≡ x = cc in subst P same (each us y first)
all_of_many P each (more us vs y ys first rest) (suc i) x e = all_of_many P each rest i x e

readable_production : (ps : List PlacedToken) (q : RawProduction) → IsProduction ps q → Each IsReadableItem q.items
readable_production ps q
    (_, _, _, _, _, (_, _, _, _, _, (_, _, items, _, are, (_, _, _, _, _, (_, _, _, _, _, (_, _, _, _, _, (_, same))))))) =
    rw same (all_of_many IsReadableItem readable_one are)

readable_grammar : (ps : List PlacedToken) (raw : RawGrammar) → IsGrammar ps raw → IsReadable raw
unfolding IsGrammar
readable_grammar ps raw
    (_, _, _, _, _, (_, _, _, _, _, (_, _, _, _, _, (_, _, _, _, _, (_, _, productions, _, are, (_, same)))))) =
    rw same (all_of_many (λ q. Each IsReadableItem q.items) readable_production are)

pub texts_are_readable : TextsAreReadable
texts_are_readable text raw reads = readable_grammar reads.placed raw reads.spells
