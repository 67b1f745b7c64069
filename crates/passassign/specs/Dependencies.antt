-- The dependencies in a production: of its rules' targets on their arguments (Knuth 1968).
use Rattle.std.specs.Prelude.{ℕ, ◌≡◌, List, Option, Some, None}
use Rattle.std.specs.List.{enumerate_from, filter_map, flat_map}
use Rattle.std.specs.Option.{option_and_then}
use Rattle.ag_grammar.specs.declared.grammar.Item.TheVariants as item
use Rattle.ag_grammar.specs.declared.grammar.Item.{Item}
use Rattle.ag_grammar.specs.declared.grammar.Production.{Production}
use Rattle.ag_grammar.specs.declared.grammar.Rule.{Rule}
use Rattle.ag_grammar.specs.declared.grammar.Target.{Target}
use Rattle.ag_grammar.specs.grammars.Accepted.{IsAccepted}
use Rattle.ag_grammar.specs.grammars.AttributeGrammar.{Grammar, IsProduction, item_at}
use Rattle.passassign.specs.declared.dependency.Dependency.{Dependency}
use Rattle.passassign.specs.Tables.{slot_of}

-- the productions of an accepted grammar: 16 bits can index them, their rules and the arguments of these
abbrev pub AreAccepted : List Production → Type 0
AreAccepted productions = (g : Grammar) × IsAccepted g × (g.productions ≡ productions)

-- a production of an accepted grammar
abbrev pub IsAcceptedProduction : Production → Type 0
IsAcceptedProduction q = (g : Grammar) × (p : ℕ) × IsAccepted g × IsProduction g p q

-- the number of the symbol that an item is
abbrev pub symbol_of : Option Item → Option ℕ
symbol_of None = None
symbol_of (Some (item.Symbol s)) = Some s
symbol_of (Some (item.Terminal t)) = None

-- In the following, p is the number of production q, x is a rule of q with its number, and y is an argument of this rule with its
-- number.

-- the dependency of the rule's target, an attribute of symbol s, on the argument, an attribute of symbol t
abbrev pub dependency_of : ℕ → ℕ × Rule → ℕ × Target → (s t : ℕ) → Dependency
dependency_of p x y s t = record {
  strike = record { symbol = s; attr = x.1.target.attr; production = p; rule = x.0; arg = y.0 };
  place = x.1.target.place;
  argument = slot_of t y.1.attr;
  from = y.1.place;
}

-- the dependency of the rule's target on the argument, if both are attributes of symbols
abbrev pub dependency_on : ℕ → Production → ℕ × Rule → ℕ × Target → Option Dependency
dependency_on p q x y =
    option_and_then (λ s. option_and_then (λ t. Some (dependency_of p x y s t)) (symbol_of (item_at q y.1.place)))
    (symbol_of (item_at q x.1.target.place))

-- the dependencies of the rule's target on the rule's arguments
abbrev pub dependencies_of_rule : ℕ → Production → ℕ × Rule → List Dependency
dependencies_of_rule p q x = filter_map (dependency_on p q x) (enumerate_from 0 x.1.args)

-- the dependencies of the rules of a production, which is given with its number
abbrev pub dependencies_of_production : ℕ × Production → List Dependency
dependencies_of_production x = flat_map (dependencies_of_rule x.0 x.1) (enumerate_from 0 x.1.rules)

-- all dependencies of some productions, in the order of productions, rules and arguments
abbrev pub dependencies_of : List Production → List Dependency
dependencies_of productions = flat_map dependencies_of_production (enumerate_from 0 productions)
