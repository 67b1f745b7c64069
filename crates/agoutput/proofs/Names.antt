-- The name is empty if a symbol has no attribute with the number.
use Rattle.std.proofs.Common.{ℕ, zero, suc, ◌≡◌, ◌<◌, List, [], ◌∷◌, Some, None, length, slice_get, slice_index_or, refl, sym, ap}
use Rattle.std.proofs.Common.{◌∙◌}
use Rattle.std.proofs.lemmas.Option.{slice_get-get_or}
use Rattle.ag_grammar.specs.declared.grammar.Symbol.{Symbol}
use Rattle.ag_grammar.specs.grammars.AttributeGrammar.{attribute_names, symbol_names}

-- the default is returned for an index without an element
none_there : {A : Type 0} (xs : List A) (i : ℕ) (d : A) → slice_get xs i ≡ None → slice_index_or xs i d ≡ d
none_there [] i d none = refl
none_there (x ∷ xs) zero d none = let bad : ⊥ = cc in absurd bad
none_there (x ∷ xs) (suc i) d none = none_there xs i d none

-- x is symbol s, and has no attribute with the number a
pub no_name : (symbols : List Symbol) (s a : ℕ) (x : Symbol) → s < length symbols → x ≡ slice_index_or symbols s x
    → slice_get (attribute_names x) a ≡ None → [] ≡ slice_index_or (symbol_names (slice_get symbols s)) a []
no_name symbols s a x within is none =
    let there : slice_get symbols s ≡ Some x = slice_get-get_or symbols s x within ∙ ap Some (sym is) in
    sym (ap (λ o. slice_index_or (symbol_names o) a []) there ∙ none_there (attribute_names x) a [] none)
