-- The meaning of showing a value (`show_value`): the expression of a text, the file of its value, and the line that is written.
-- `content` is the content of the device after the call, and `old` and `new` are the output's bytes before and after the call, if
-- a contract can name them. All of this is this project's.
use Rattle.std.specs.Prelude.{◌≡◌, ◌⊎◌, ℕ, pos, List, [], ◌∷◌, Option, None, Some}
use Rattle.std.specs.Io.KnownBytes.{Appends}
use Rattle.ag_grammar.specs.expressions.Evaluation.{value_of}
use Rattle.ag_expr.specs.language.Expression.{IsFaultOf, ReadsAsExpr, ReadsAsNone}
use Rattle.ag_expr.specs.declared.fault.ExprFault.{ExprFault}
use Rattle.ag_expr.specs.declared.fault.ExprFault.TheVariants as expr
use Rattle.ag_grammar.specs.declared.syntax.node.Node.{Node}
use Rattle.ag_grammar.specs.declared.syntax.occurrence.Occ.{Occ}
use Rattle.ag_grammar.specs.expressions.Expression.{Expression}
use Rattle.ag_value.specs.Well.{IsWell}
use Rattle.ag_value.specs.declared.value.Value.{Value}
use Rattle.ag_value.specs.declared.value.Value.TheVariants as value
use Rattle.treefile.specs.records.TreeFile.{body_of, file, version_two}
use Rattle.treefile.specs.declared.body.Kind.TheVariants.{Token}
use Rattle.ag_fault.specs.declared.fault.Fault.{Fault}
use Rattle.ag_fault.specs.declared.fault.Fault.TheVariants as fault
use Rattle.agoutput.specs.Lines.{value_line}
use Rattle.agoutput.specs.Writing.{AppendsBeginning}

-- the environment of an expression without occurrences: its values are never used
abbrev pub no_values : ℕ → Value
no_values k = value.Num (pos 0)

-- the text reads as an expression without occurrences, whose value this is
pub record HasValue (text : List ℕ) (is : Value) : Type 0 where
  pub tree : Node
  pub reads : ReadsAsExpr text (record { tree = tree; occurrences = [] })
  pub value : is ≡ value_of tree no_values

-- the text does not read as an expression without occurrences
abbrev pub HasNoValue : List ℕ → Type 0
HasNoValue text = (is : Value) → HasValue text is → ⊥

-- the offset of the first of some occurrences, if there is one
abbrev pub first_offset : List Occ → Option ℕ
first_offset [] = None
first_offset (first ∷ others) = Some first.at

-- the text reads as an expression with occurrences, and the `$` of the first one is at the offset
pub record OccursAt (text : List ℕ) (at : ℕ) : Type 0 where
  pub expr : Expression
  pub reads : ReadsAsExpr text expr
  pub offset : first_offset expr.occurrences ≡ Some at

-- The meaning of X1 to X4: the text does not read as an expression, and the fault is true at its offset. X2 (the
-- variant Unexpected) may also mean that the text reads as an expression whose first occurrence is at the offset.
-- NoMemory is not X.
abbrev pub IsReason : List ℕ → ExprFault → Type 0
IsReason text (expr.Unexpected at) = (ReadsAsNone text × IsFaultOf text (expr.Unexpected at)) ⊎ OccursAt text at
IsReason text expr.NoMemory = ⊥
IsReason text e = ReadsAsNone text × IsFaultOf text e

-- the tree file of version 2 and pass 0 whose one record is a token with number 0 and this value
abbrev pub file_of : Value → List ℕ
file_of is = file version_two 0 (body_of Token 0 (is ∷ []) ∷ [])

-- the value of the text was written to a file and read, and its line was written
pub record Shows (text : List ℕ) (old new : Option (List ℕ)) (content : List ℕ) : Type 0 where
  pub shown : Value
  pub has : HasValue text shown
  pub file : content ≡ file_of shown
  pub line : Appends old new (value_line shown)

-- a prefix of the line of the text's value was written
pub record ShowsBeginning (text : List ℕ) (old new : Option (List ℕ)) : Type 0 where
  pub shown : Value
  pub has : HasValue text shown
  pub beginning : AppendsBeginning old new (value_line shown)

-- the line of some well value was written
pub record WritesLine (old new : Option (List ℕ)) : Type 0 where
  pub shown : Value
  pub well : IsWell shown
  pub line : Appends old new (value_line shown)

-- a prefix of the line of some well value was written
pub record BeginsLine (old new : Option (List ℕ)) : Type 0 where
  pub shown : Value
  pub well : IsWell shown
  pub beginning : AppendsBeginning old new (value_line shown)

-- if the fault is one of X1 to X4, it is true of the text
abbrev pub IsExplained : List ℕ → Fault → Type 0
IsExplained text (fault.Expr e) = IsReason text e
IsExplained text _ = Unit {0}

-- X2 at the offset, or NoMemory
abbrev pub IsUnexpectedAt : ℕ → Fault → Type 0
IsUnexpectedAt at (fault.Expr e) = e ≡ expr.Unexpected at
IsUnexpectedAt at fault.NoMemory = Unit {0}
IsUnexpectedAt at _ = ⊥

-- a fault of the text of an expression (X1 to X4)
abbrev pub IsExprFault : Fault → Type 0
IsExprFault (fault.Expr e) = Unit {0}
IsExprFault _ = ⊥

-- a call of the device failed, or memory was refused
abbrev pub IsResourceFault : Fault → Type 0
IsResourceFault fault.Device = Unit {0}
IsResourceFault fault.NoMemory = Unit {0}
IsResourceFault _ = ⊥

-- B1 and B2: the file on the device is not the expected one
abbrev pub IsDamage : Fault → Type 0
IsDamage fault.NotATreeFile = Unit {0}
IsDamage (fault.Damaged at) = Unit {0}
IsDamage _ = ⊥

-- a fault of a device, of the file on it, or of memory
abbrev pub IsFileFault : Fault → Type 0
IsFileFault fault.NotATreeFile = Unit {0}
IsFileFault (fault.Damaged at) = Unit {0}
IsFileFault fault.Device = Unit {0}
IsFileFault fault.NoMemory = Unit {0}
IsFileFault _ = ⊥

-- a fault of the text, or of memory
abbrev pub IsTextFault : Fault → Type 0
IsTextFault (fault.Expr e) = Unit {0}
IsTextFault fault.NoMemory = Unit {0}
IsTextFault _ = ⊥

-- the possible faults of `show_value`: of the text, of the device, of the file on the device, of writing, or of
-- memory
abbrev pub IsShowFault : Fault → Type 0
IsShowFault (fault.Expr e) = Unit {0}
IsShowFault fault.NotATreeFile = Unit {0}
IsShowFault (fault.Damaged at) = Unit {0}
IsShowFault fault.Device = Unit {0}
IsShowFault fault.Write = Unit {0}
IsShowFault fault.NoMemory = Unit {0}
IsShowFault _ = ⊥
