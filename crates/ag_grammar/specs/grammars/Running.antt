-- Consecutive passes over a tree, and the values that they leave (after Jazayeri and Walter 1975).
use Rattle.std.specs.Prelude.{ℕ, ◌<◌, ◌≤◌}
use Rattle.ag_grammar.specs.Lists.{Each}
use Rattle.ag_grammar.specs.declared.grammar.Production.{Production}
use Rattle.ag_grammar.specs.declared.grammar.Rule.{Rule}
use Rattle.ag_grammar.specs.grammars.AttributeGrammar.{Grammar}
use Rattle.ag_grammar.specs.grammars.Passes.{Passes, HasPass}
use Rattle.ag_grammar.specs.grammars.Solution.{Valuation, Solves, Same, OfPass, AnyRule, NoRule, AnyPass}
use Rattle.ag_grammar.specs.grammars.Tree.{Tree}

-- the rules whose target belongs to pass `first` or a later one
abbrev pub FromPass : Passes → ℕ → Production → Rule → Type 0
FromPass m first q r = (k : ℕ) × (first ≤ k) × HasPass m q r.target k

-- no attribute of a symbol belongs to a later pass than `last`
abbrev pub IsLastPass : ℕ → Passes → Type 0
IsLastPass last m = (s : ℕ) → Each (λ k. k ≤ last) (m s)

-- The passes from `first` up to, but not including, `next` have run: they started with the values u, and left
-- w. The values w give each leaf its text, keep the values of u that belong to passes before `first`, and
-- satisfy each equation whose target belongs to a pass that has run (after Jazayeri and Walter 1975).
pub record RanThrough (g : Grammar) (m : Passes) (t : Tree) (u : Valuation) (first next : ℕ) (w : Valuation) : Type 0 where
  pub texts : Solves NoRule g t w
  pub kept : Same (λ p. p < first) g m t u w
  pub solved : (k : ℕ) → first ≤ k → k < next → Solves (OfPass m k) g t w

-- The values w are the solution: they satisfy all equations on the tree (Knuth 1968), and any values that do
-- are the same for all attributes to which the assignment gives a pass.
pub record IsTheSolution (g : Grammar) (m : Passes) (t : Tree) (w : Valuation) : Type 0 where
  pub solves : Solves AnyRule g t w
  pub only : (v : Valuation) → Solves AnyRule g t v → Same AnyPass g m t v w
