-- Trees that can be recorded in a file, so that the file determines them. The letters are those of `Records.antt`. All of this is
-- this project's.
use Rattle.std.specs.Prelude.{ℕ, ◌^◌, ◌≤◌, length}
use Rattle.ag_grammar.specs.declared.grammar.Item.{Item}
use Rattle.ag_grammar.specs.grammars.AttributeGrammar.{Grammar}
use Rattle.ag_grammar.specs.grammars.Passes.{Passes}
use Rattle.ag_grammar.specs.grammars.Solution.{IsWellOn, NoRule, Solves, Valuation}
use Rattle.ag_grammar.specs.grammars.Tree.{Fits, Tree}

-- A grammar has at most as many productions as a record can number in its two bytes.
abbrev pub IsNumbered : Grammar → Type 0
IsNumbered g = length g.productions ≤ 2 ^ 16

-- A tree can be recorded in pass k with its values: it is a tree of an item, the values give each leaf its
-- text, and those up to the pass are well.
pub record IsRecorded (g : Grammar) (m : Passes) (k : ℕ) (x : Item) (t : Tree) (v : Valuation) : Type 0 where
  pub fits : Fits g x t
  pub texts : Solves NoRule g t v
  pub well : IsWellOn (λ p. p ≤ k) g m t v
