-- A text that is the name of a symbol, a dot, and the name of one of its attributes names this attribute.
use Rattle.std.proofs.Common.{ℕ, ◌≡◌, ◌++◌, List, ◌∷◌, Some, slice_get, ap, sym, ◌∙◌, subst}
use Rattle.ag_grammar.specs.declared.grammar.Symbol.{Symbol}
use Rattle.ag_grammar.specs.grammars.AttributeGrammar.{Grammar, attribute_names}
use Rattle.message_parts.specs.Names.{IsAttributeNamed, IsSymbolNamed}

pub named : (g : Grammar) (text : List ℕ) (s a : ℕ) (before after : List ℕ) (y : Symbol) → IsSymbolNamed g.symbols s before
    → slice_get g.symbols s ≡ Some y → slice_get (attribute_names y) a ≡ Some after → text ≡ before ++ 46 ∷ after
    → IsAttributeNamed g text s a
named g text s a before after y (x, e, n) at own whole =
    let both : Some x ≡ Some y = sym e ∙ at in
    let same : x ≡ y = cc in
    let name : before ≡ y.name = sym n ∙ ap (λ (z : Symbol). z.name) same in
    record {
      symbol = y;
      own = after;
      is_symbol = at;
      is_attribute = own;
      is_text = subst (λ b. text ≡ b ++ 46 ∷ after) name whole;
    }
