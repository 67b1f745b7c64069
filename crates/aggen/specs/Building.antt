-- The meaning of building a translator: the grammar of a text, or its first fault. In this file t is a text. All of this is this
-- project's.
use Rattle.std.specs.Prelude.{ℕ, List}
use Rattle.ag_grammar.specs.grammars.AttributeGrammar.{Grammar}
use Rattle.llparse.specs.Ahead.{HasNoConflict}
use Rattle.llparse.specs.table.Tables.{IsLeastConflict}
use Rattle.llparse.specs.declared.table.fault.TableFault.{TableFault}
use Rattle.llparse.specs.declared.table.fault.TableFault.TheVariants as table
use Rattle.passassign.specs.Answer.{IsRefused}
use Rattle.passassign.specs.Least.{IsLeast}
use Rattle.passassign.specs.Rows.{passes_of}
use Rattle.passcode.specs.Listing.{AreGeneratedLists}
use Rattle.passcode.specs.Rows.{Lists}
use Rattle.planchecker.specs.Plans.{IsPlan}
use Rattle.aggen.specs.Checking.{IsGrammarOf, IsNormalFaultOf, IsTextFaultOf}
use Rattle.ag_fault.specs.declared.build_fault.BuildFault.{BuildFault}
use Rattle.ag_fault.specs.declared.build_fault.BuildFault.TheVariants as build
use Rattle.ag_fault.specs.declared.stuck_grammar.StuckGrammar.{StuckGrammar}

-- L1: the text is that of an accepted grammar, and this is the grammar's least conflict; NoMemory is not L1
abbrev pub IsConflictOf : List ℕ → TableFault → Type 0
IsConflictOf t (table.Conflict symbol first second ahead) =
    (g : Grammar) × IsGrammarOf t g × IsLeastConflict g symbol first second ahead
IsConflictOf t table.NoMemory = ⊥

-- A1: the text is that of an accepted grammar without a conflict. The grammar has no legal assignment, as the certificate
-- `s.stuck` shows.
pub record IsStuckOf (t : List ℕ) (s : StuckGrammar) : Type 0 where
  pub grammar : IsGrammarOf t s.grammar
  pub free : HasNoConflict s.grammar
  pub refused : IsRefused s.grammar s.stuck

-- The least plan of a grammar. `rows` has the passes of each symbol's attributes. They are legal, and no legal assignment gives
-- an attribute an earlier pass. `code` agrees with them, and its lists of instructions are those that `passcode` defines.
pub record IsLeastPlan (g : Grammar) (rows : List (List ℕ)) (code : Lists) : Type 0 where
  pub plan : IsPlan g rows code
  pub least : IsLeast g (passes_of rows)
  pub lists : AreGeneratedLists g (passes_of rows) code

-- the meaning of a fault of `grammar_of`: G and N are true of the text, NoMemory has no meaning, L and A are impossible
abbrev pub IsGrammarFault : List ℕ → BuildFault → Type 0
IsGrammarFault t (build.Text f) = IsTextFaultOf t f
IsGrammarFault t (build.Normal f) = IsNormalFaultOf t f
IsGrammarFault t (build.Table f) = ⊥
IsGrammarFault t (build.Assign f) = ⊥
IsGrammarFault t build.NoMemory = Unit {0}

-- the meaning of a fault of `Translator::build`: G, N, L and A are true of the text, NoMemory has no meaning
abbrev pub IsBuildFault : List ℕ → BuildFault → Type 0
IsBuildFault t (build.Text f) = IsTextFaultOf t f
IsBuildFault t (build.Normal f) = IsNormalFaultOf t f
IsBuildFault t (build.Table f) = IsConflictOf t f
IsBuildFault t (build.Assign f) = IsStuckOf t f
IsBuildFault t build.NoMemory = Unit {0}
