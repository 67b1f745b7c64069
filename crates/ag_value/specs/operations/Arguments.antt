-- Errors among arguments. Operators, calls and lists treat them alike, by `strict`. The calls `iserr` and `orelse` don't, and
-- their results are defined here too. `fault_at` takes the outermost level of a value (`out-Value`). All definitions are this
-- project's.
use Rattle.std.specs.Prelude.{Bool, true, false, pos, List, [], ◌∷◌, Option, Some, None}
use Rattle.ag_value.specs.declared.value.ErrorCode.{ErrorCode}
use Rattle.ag_value.specs.declared.value.Value.{Value, out-Value}
use Rattle.ag_value.specs.declared.value.Value.TheOpen.{Value-F}
use Rattle.ag_value.specs.declared.value.Value.TheVariants as value

-- the error code of a value, if it is an error
abbrev pub fault_at : Value-F Value → Option ErrorCode
fault_at (Value-F.Num n) = None
fault_at (Value-F.Text text) = None
fault_at (Value-F.List items) = None
fault_at (Value-F.Table pairs) = None
fault_at (Value-F.Fault code) = Some code

-- the same, from the whole value
abbrev pub fault_of : Value → Option ErrorCode
fault_of v = fault_at (out-Value v)

-- the first error code, if there is one, else the second, if there is one
abbrev pub first_fault : Option ErrorCode → Option ErrorCode → Option ErrorCode
first_fault (Some code) other = Some code
first_fault None other = other

-- the code of the leftmost error among values, if there is an error
unfoldable pub leftmost : List Value → Option ErrorCode
leftmost [] = None
leftmost (v ∷ vs) = first_fault (fault_of v) (leftmost vs)

-- the error, if there is one, else the value
abbrev pub fault_or : Option ErrorCode → Value → Value
fault_or (Some code) v = value.Fault code
fault_or None v = v

-- If an argument is an error, the result is the leftmost such error, whatever the other arguments are;
-- otherwise it is the operation's result v.
abbrev pub strict : List Value → Value → Value
strict arguments v = fault_or (leftmost arguments) v

-- the value of a test: 1 for true, 0 for false
abbrev pub truth : Bool → Value
truth true = value.Num (pos 1)
truth false = value.Num (pos 0)

-- whether there is an error code
abbrev pub has_fault : Option ErrorCode → Bool
has_fault (Some code) = true
has_fault None = false

-- the value of `iserr(v)`, which accepts errors: 1 if v is an error, else 0
abbrev pub iserr_result : Value → Value
iserr_result v = truth (has_fault (fault_of v))

-- v if there is no error code (`None`), else w
abbrev pub either : Option ErrorCode → Value → Value → Value
either None v w = v
either (Some code) v w = w

-- the value of `orelse(v, w)`, which accepts errors: v if v is not an error, else w
abbrev pub or_else : Value → Value → Value
or_else v w = either (fault_of v) v w
