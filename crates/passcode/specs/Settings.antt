-- Plans as contracts see them, and the setting of a pass: what a pass runs with (this project's).
use Rattle.std.specs.Prelude.{ℕ, ◌-◌, List, [], slice_index_or}
use Rattle.ag_grammar.specs.declared.direction.Direction.{Direction}
use Rattle.ag_grammar.specs.grammars.AttributeGrammar.{Grammar}
use Rattle.ag_grammar.specs.grammars.Passes.{Passes, direction_of}
use Rattle.passassign.specs.Rows.{passes_of}
use Rattle.passcode.specs.declared.instr.Instr.{Instr}
use Rattle.passcode.specs.Rows.{Lists, lists_of}

-- The rows of an assignment, which are the passes of each symbol's attributes, and code. They need not be a plan (`IsPlan` of
-- planchecker). Contracts see the struct `Plan` of planchecker as this record; the invariant of `Plan` says that it is one.
pub record EvaluationPlan : Type 0 where
  pub assignment : List (List ℕ)
  pub code : Lists

-- A grammar, an assignment `passes`, code, and a pass. Pass k reads the file of pass k - 1 (`read`) and writes that of pass k
-- (`write`), so `write` is the number of the pass. The file of pass 0 is the parsed tree, with its tokens' texts. The struct
-- `Setting` of pass_rows has references to the grammar and the plan; contracts turn it into this record.
pub record Setting : Type 0 where
  pub grammar : Grammar
  pub passes : Passes
  pub code : Lists
  pub read : ℕ
  pub write : ℕ

-- the setting of a grammar, the rows and the code of a plan, and pass k
abbrev pub setting_of : Grammar → EvaluationPlan → ℕ → Setting
setting_of g plan k = record { grammar = g; passes = passes_of plan.assignment; code = plan.code; read = k - 1; write = k }

-- the direction of the pass
abbrev pub pass_direction : Setting → Direction
pass_direction c = direction_of c.write

-- the list of instructions for production p in the pass, empty if the code has none; the list of pass k has index k - 1, `read`
abbrev pub list_at : Setting → ℕ → List Instr
list_at c p = slice_index_or (lists_of c.code p) c.read []
