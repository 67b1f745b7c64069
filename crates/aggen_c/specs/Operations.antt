-- The operations of a translator: the result of each for an input, and why it fails. This project's.
use Rattle.std.specs.Prelude.{ℕ, List}
use Rattle.ag_grammar.specs.grammars.AttributeGrammar.{Grammar}
use Rattle.ag_fault.specs.declared.fault.Fault.{Fault}
use Rattle.aggen.specs.Results.{IsEvaluationOf, IsTranslationOf}
use Rattle.aggen_c.specs.Results.{IsEvaluationRefusal, IsNoMemory, IsPlanTextOf}
use Rattle.aggen_c.specs.Results.{IsTranslationRefusal}
use Rattle.aggen_c.specs.Results.{IsTreeFileOf, IsTreeRefusal}
use Rattle.aggen_c.specs.declared.operation.Operation.{Operation}
use Rattle.aggen_c.specs.declared.operation.Operation.TheVariants as operation

-- the bytes are the result of an operation on an input, by the grammar of its translator
abbrev pub IsResultOf : Operation → Grammar → (input bytes : List ℕ) → Type 0
IsResultOf operation.Translate g input = IsTranslationOf g input
IsResultOf operation.Evaluate g input = IsEvaluationOf g input
IsResultOf operation.Parse g input = IsTreeFileOf g input
IsResultOf operation.Plan g input = IsPlanTextOf g

-- the fault is one with which an operation can fail, and it is true of the input
abbrev pub IsRefusalOf : Operation → Grammar → (input : List ℕ) → Fault → Type 0
IsRefusalOf operation.Translate g input = IsTranslationRefusal g input
IsRefusalOf operation.Evaluate g input = IsEvaluationRefusal g input
IsRefusalOf operation.Parse g input = IsTreeRefusal g input
IsRefusalOf operation.Plan g input = IsNoMemory
