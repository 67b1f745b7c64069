-- The statements of the laws of look-ahead and of parsing.
use Rattle.std.specs.Prelude.{ℕ, ◌≡◌, ◌<◌, ◌↔◌, List, [], Some, slice_get}
use Rattle.ag_grammar.specs.grammars.AttributeGrammar.{Grammar}
use Rattle.ag_grammar.specs.grammars.Solution.{Valuation, NoRule, Solves}
use Rattle.ag_grammar.specs.grammars.Tree.{Tree, IsTreeOf}
use Rattle.ag_grammar.specs.grammars.Yield.{Lexeme, yield_of}
use Rattle.llparse.specs.Ahead.{HasNoConflict}
use Rattle.llparse.specs.declared.ahead.Ahead.{Ahead}
use Rattle.llparse.specs.declared.table.fault.TableFault.{TableFault}
use Rattle.llparse.specs.declared.table.fault.TableFault.TheVariants as table_fault
use Rattle.llparse.specs.sentence.Opened.{Open}
use Rattle.llparse.specs.sentence.Sentences.{IsTreeWith, LeavesOnly}
use Rattle.llparse.specs.table.Conflicts.{AreConflicts}
use Rattle.llparse.specs.table.Tables.{IsLeastConflict}

-- A grammar without a conflict has at most one tree with a given yield (the textbook).
abbrev pub OneTree : Type 0
OneTree = (g : Grammar) → HasNoConflict g → (t u : Tree) → IsTreeOf g t → IsTreeOf g u → yield_of g t ≡ yield_of g u → t ≡ u

-- If words leave only trees beyond a limit, each tree of these words is beyond it. `LeavesOnly` explains `size`, `begun` and
-- `limit`.
abbrev pub LeftTreesAreBeyondTheLimit : Type 0
LeftTreesAreBeyondTheLimit = (g : Grammar) (words : List Lexeme) (size : Tree → ℕ) (begun : List Open → ℕ) (limit : ℕ) (t : Tree)
    → LeavesOnly g words size begun limit → IsTreeWith g words t → limit < size t

-- Each tree has values that give each of its leaves its text. `IsFirstFile` of `treefile` is about such values.
abbrev pub TextsAreGiven : Type 0
TextsAreGiven = (g : Grammar) (t : Tree) → (v : Valuation) × Solves NoRule g t v

-- A grammar has one list of all conflicts.
abbrev pub OneListOfConflicts : Type 0
OneListOfConflicts = (g : Grammar) (xs ys : List TableFault) → AreConflicts g xs → AreConflicts g ys → xs ≡ ys

-- The list of all conflicts is empty exactly if the grammar has no conflict.
abbrev pub EmptyIfFree : Type 0
EmptyIfFree = (g : Grammar) → AreConflicts g [] ↔ HasNoConflict g

-- The head of the list of all conflicts is the least conflict.
abbrev pub HeadIsLeast : Type 0
HeadIsLeast = (g : Grammar) (faults : List TableFault) (symbol first second : ℕ) (x : Ahead) → AreConflicts g faults
    → slice_get faults 0 ≡ Some (table_fault.Conflict symbol first second x) ↔ IsLeastConflict g symbol first second x
