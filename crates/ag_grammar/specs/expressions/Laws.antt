-- Statements of the laws about the values of expressions and of rules. What a rule is, and when it holds, is
-- Knuth's (1968); all else is this project's.
use Rattle.std.specs.Prelude.{ℕ, ◌≡◌, ◌<◌, true, List}
use Rattle.ag_value.specs.declared.value.Value.{Value}
use Rattle.ag_grammar.specs.declared.grammar.Production.{Production}
use Rattle.ag_grammar.specs.declared.grammar.Rule.{Rule}
use Rattle.ag_grammar.specs.declared.syntax.node.Node.{Node}
use Rattle.ag_grammar.specs.expressions.Evaluation.{value_in, value_of}
use Rattle.ag_grammar.specs.expressions.Occurring.{AgreeOn, has_occurrence}
use Rattle.ag_grammar.specs.expressions.Trees.{is_within}
use Rattle.ag_grammar.specs.grammars.Accepted.{IsNamedRule}
use Rattle.ag_grammar.specs.grammars.AttributeGrammar.{Grammar}
use Rattle.ag_grammar.specs.grammars.Solution.{Holds, Supplies}

-- A tree has the same value in two environments that agree on it, whatever names are bound around it.
abbrev pub ValueOfOccurrences : Type 0
ValueOfOccurrences = (e : Node) (env other : ℕ → Value) (bound : List Value) → AgreeOn e env other
    → value_in e env bound ≡ value_in e other bound

-- If a tree passes the test `is_within` for n and some number `bound` of names bound around it, it contains no occurrence whose
-- number is n or more.
abbrev pub OccurrencesAreListed : Type 0
OccurrencesAreListed = (n k bound : ℕ) (e : Node) → is_within n e bound ≡ true → has_occurrence k e ≡ true → k < n

-- The expression of a rule has the same value in any two environments that give its occurrences the values of
-- its arguments. `e` has the values of attributes, by place and number.
abbrev pub RuleHasOneValue : Type 0
RuleHasOneValue = (g : Grammar) (q : Production) (r : Rule) (e : ℕ → ℕ → Value) (env other : ℕ → Value) → IsNamedRule g q r
    → Supplies r e env → Supplies r e other → value_of r.expr.tree env ≡ value_of r.expr.tree other

-- Hence a rule holds if its target has the value of the expression in one such environment.
abbrev pub RuleHoldsByOne : Type 0
RuleHoldsByOne = (g : Grammar) (q : Production) (r : Rule) (e : ℕ → ℕ → Value) (env : ℕ → Value) → IsNamedRule g q r
    → Supplies r e env → e r.target.place r.target.attr ≡ value_of r.expr.tree env → Holds r e
