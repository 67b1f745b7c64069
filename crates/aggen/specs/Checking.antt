-- The meaning of checking a grammar's text: the grammar, its first fault, and the line that is written. `old` and `new` are the
-- output's bytes before and after the call, if a contract can name them. All of this is this project's.
use Rattle.std.specs.Prelude.{◌≡◌, ◌≢◌, ℕ, List, Option, Err}
use Rattle.std.specs.Io.KnownBytes.{Appends}
use Rattle.ag_expr.specs.declared.fault.ExprFault.TheVariants as expr
use Rattle.ag_grammar.specs.grammars.Accepted.{IsAccepted}
use Rattle.ag_grammar.specs.grammars.AttributeGrammar.{Grammar}
use Rattle.ag_text.specs.Answers.{IsFirstOf, IsRead, IsRefused}
use Rattle.ag_text.specs.Grammar.{ReadsAsGrammar}
use Rattle.ag_text.specs.declared.fault.TextFault.{TextFault}
use Rattle.ag_text.specs.declared.fault.TextFault.TheVariants as text_fault
use Rattle.ag_grammar.specs.declared.raw.RawGrammar.{RawGrammar}
use Rattle.normalform.specs.faults.Faults.{IsFirstFault, IsReadable}
use Rattle.normalform.specs.numbers.Numbers.{numbered}
use Rattle.normalform.specs.declared.fault.NormalFault.{NormalFault}
use Rattle.agoutput.specs.Lines.{counts_line}
use Rattle.agoutput.specs.Writing.{AppendsBeginning}
use Rattle.ag_fault.specs.declared.fault.Fault.{Fault}
use Rattle.ag_fault.specs.declared.fault.Fault.TheVariants as fault

-- The literals and classes of the grammar that a text reads as are readable.
abbrev pub TextsAreReadable : Type 0
TextsAreReadable = (text : List ℕ) (raw : RawGrammar) → ReadsAsGrammar text raw → IsReadable raw

-- The text reads as a raw grammar, with names. With numbers for the names it is `grammar`, which is accepted.
pub record IsGrammarOf (text : List ℕ) (grammar : Grammar) : Type 0 where
  pub raw : RawGrammar
  pub reads : ReadsAsGrammar text raw
  pub named : grammar ≡ numbered raw
  pub accepted : IsAccepted grammar

-- G1 to G4: the reading function of `ag_text` returns this fault for the text (`read`). G2 has the offset and the line of the
-- first token that can't be accepted (`first`, which says nothing of other faults). The text does not read as a grammar
-- (`refused`). NoMemory is none of G1 to G4.
pub record IsTextFaultOf (text : List ℕ) (f : TextFault) : Type 0 where
  pub read : IsRead text (Err f)
  pub first : IsFirstOf text f
  pub refused : IsRefused text f
  pub of_text : f ≢ text_fault.NoMemory
  pub of_expression : f ≢ text_fault.Expr expr.NoMemory

-- N1 to N10: the text reads as a raw grammar, and this is its first fault. With numbers for the names, the
-- grammar is not accepted.
pub record IsNormalFaultOf (text : List ℕ) (f : NormalFault) : Type 0 where
  pub raw : RawGrammar
  pub reads : ReadsAsGrammar text raw
  pub first : IsFirstFault raw f
  pub refused : IsAccepted (numbered raw) → ⊥

-- the meaning of a fault of `print_counts` but O2: G and N are true of the text, NoMemory has no meaning, no other is possible
abbrev pub IsCheckFault : List ℕ → Fault → Type 0
IsCheckFault text (fault.Text f) = IsTextFaultOf text f
IsCheckFault text (fault.Normal f) = IsNormalFaultOf text f
IsCheckFault text fault.NoMemory = Unit {0}
IsCheckFault text _ = ⊥

-- the line with the numbers of symbols and productions of the text's grammar was written
pub record PrintsCounts (text : List ℕ) (old new : Option (List ℕ)) : Type 0 where
  pub grammar : Grammar
  pub is : IsGrammarOf text grammar
  pub line : Appends old new (counts_line grammar)

-- a prefix of the line with the numbers of symbols and productions of the text's grammar was written
pub record BeginsCounts (text : List ℕ) (old new : Option (List ℕ)) : Type 0 where
  pub grammar : Grammar
  pub is : IsGrammarOf text grammar
  pub beginning : AppendsBeginning old new (counts_line grammar)
