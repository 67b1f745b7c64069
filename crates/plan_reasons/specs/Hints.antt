-- Attributes that no rule uses, and those that are only copied. In this file g is a grammar, q one of its productions, u a rule
-- of q, and o a target: a place of q and the number of an attribute there. The attribute that a definition is about has number a
-- in the symbol of number s, both from 0.
use Rattle.std.specs.Prelude.{ℕ, ◌≡◌, Some}
use Rattle.ag_grammar.specs.Lists.{Each}
use Rattle.ag_grammar.specs.declared.grammar.Item.TheVariants as item
use Rattle.ag_grammar.specs.declared.grammar.Production.{Production}
use Rattle.ag_grammar.specs.declared.grammar.Rule.{Rule}
use Rattle.ag_grammar.specs.declared.grammar.Target.{Target}
use Rattle.ag_grammar.specs.declared.syntax.node.Node.TheVariants as node
use Rattle.ag_grammar.specs.grammars.AttributeGrammar.{Grammar, item_at}

-- target o of production q is attribute a of symbol s: its number is a, and symbol s is at its place
abbrev pub IsAttributeAt : Production → Target → ℕ → ℕ → Type 0
IsAttributeAt q o s a = (o.attr ≡ a) × (item_at q o.place ≡ Some (item.Symbol s))

-- no argument of a rule is the attribute
abbrev pub IsUnusedBy : Production → ℕ → ℕ → Rule → Type 0
IsUnusedBy q s a u = Each (λ (o : Target). IsAttributeAt q o s a → ⊥) u.args

-- no rule of a production uses the attribute
abbrev pub IsUnusedIn : ℕ → ℕ → Production → Type 0
IsUnusedIn s a q = Each (IsUnusedBy q s a) q.rules

-- no rule of a grammar uses the attribute
abbrev pub IsUnused : Grammar → ℕ → ℕ → Type 0
IsUnused g s a = Each (IsUnusedIn s a) g.productions

-- a rule is a copy: its expression is one occurrence, such as `$1.p` (n is its index in the expression's list of occurrences)
abbrev pub IsCopy : Rule → Type 0
IsCopy u = (n : ℕ) × (u.expr.tree ≡ node.Occurrence n)

-- rule u is a copy, or its target is not the attribute
abbrev pub IsCopiedBy : Production → ℕ → ℕ → Rule → Type 0
IsCopiedBy q s a u = IsAttributeAt q u.target s a → IsCopy u

-- each rule of a production for the attribute is a copy; this is so if the production has no such rule
abbrev pub IsCopiedIn : ℕ → ℕ → Production → Type 0
IsCopiedIn s a q = Each (IsCopiedBy q s a) q.rules

-- each rule of a grammar for the attribute is a copy
abbrev pub IsCopied : Grammar → ℕ → ℕ → Type 0
IsCopied g s a = Each (IsCopiedIn s a) g.productions
