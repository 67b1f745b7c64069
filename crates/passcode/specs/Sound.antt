-- The conditions that `pass_rows` and `passrun` rely on when a pass runs (this project's).
use Rattle.std.specs.Prelude.{ℕ, suc, ◌≡◌}
use Rattle.ag_grammar.specs.declared.grammar.Production.{Production}
use Rattle.ag_grammar.specs.grammars.Accepted.{IsAccepted}
use Rattle.ag_grammar.specs.grammars.AttributeGrammar.{IsProduction}
use Rattle.ag_grammar.specs.grammars.Passes.{IsLegal}
use Rattle.passcode.specs.Course.{Runs, start}
use Rattle.passcode.specs.Settings.{Setting, list_at}

-- The grammar is accepted, the assignment is legal, the list of each production for the pass runs from the start to the end,
-- and the pass that is written is the one after the pass that is read.
pub record IsSound (c : Setting) : Type 0 where
  pub accepted : IsAccepted c.grammar
  pub legal : IsLegal c.grammar c.passes
  pub course : (p : ℕ) (q : Production) → IsProduction c.grammar p q → Runs c.passes q c.write start (list_at c p)
  pub next : c.write ≡ suc c.read
