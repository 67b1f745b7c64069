-- The statements of the laws.
use Rattle.std.specs.Prelude.{ℕ, ◌≡◌, ◌≤◌, ◌↔◌, List, Some}
use Rattle.std.specs.List.{count_by}
use Rattle.ag_grammar.specs.declared.grammar.Production.{Production}
use Rattle.ag_grammar.specs.grammars.Accepted.{IsAccepted}
use Rattle.ag_grammar.specs.grammars.AttributeGrammar.{Grammar, IsProduction}
use Rattle.ag_grammar.specs.grammars.Counts.{pass_rule_count}
use Rattle.ag_grammar.specs.grammars.Passes.{Passes, IsLegal}
use Rattle.passcode.specs.declared.instr.Instr.{Instr}
use Rattle.passcode.specs.Agreement.{ListAgrees}
use Rattle.passcode.specs.Counts.{is_computation}
use Rattle.passcode.specs.Course.{Runs, start}

-- Under a legal assignment of an accepted grammar, a list agrees for a production and a pass exactly if it runs from the start to
-- the end.
abbrev pub ListsRun : Type 0
ListsRun = (g : Grammar) (m : Passes) (p k : ℕ) (q : Production) (xs : List Instr) → IsAccepted g → IsLegal g m
    → IsProduction g p q → 1 ≤ k → ListAgrees m q k xs ↔ Runs m q k start xs

-- A list that agrees runs as many rules as the production has rules whose targets have the pass, under any assignment.
abbrev pub ListsEvaluateRules : Type 0
ListsEvaluateRules = (m : Passes) (q : Production) (k : ℕ) (xs : List Instr) → ListAgrees m q k xs
    → count_by is_computation xs ≡ pass_rule_count m k (Some q)
