-- Operations on lists, and those shared by texts, lists and tables. If an argument is an error, `strict` of `Arguments` replaces
-- these results by the error; `listed` already does this. `length_at`, `concatenated_at` and `nth_at` take the outermost levels
-- of values (`out-Value`), and `appended_at` that of the list. The definition after each takes the values. All of this is this
-- project's.
use Rattle.std.specs.Prelude.{ℤ, pos, negsuc, List, [], ◌∷◌, ◌++◌, length, Option, Some, None, slice_get}
use Rattle.ag_value.specs.declared.value.ErrorCode.TheVariants.{Kind, Index}
use Rattle.ag_value.specs.declared.value.Value.{Value, out-Value}
use Rattle.ag_value.specs.declared.value.Value.TheOpen.{Value-F}
use Rattle.ag_value.specs.declared.value.Value.TheVariants as value
use Rattle.ag_value.specs.operations.Arguments.{strict}
use Rattle.ag_value.specs.operations.Fitting.{fit}

-- `[a, ..]`, with items that may be errors
abbrev pub listed : List Value → Value
listed items = strict items (fit (value.List items))

-- `len(a)`: the number of bytes of a text, of items of a list, or of pairs of a table; the error `kind` for other values
abbrev pub length_at : Value-F Value → Value
length_at (Value-F.Text text) = value.Num (pos (length text))
length_at (Value-F.List items) = value.Num (pos (length items))
length_at (Value-F.Table pairs) = value.Num (pos (length pairs))
length_at v = value.Fault Kind

-- `len(a)`
abbrev pub length_of : Value → Value
length_of v = length_at (out-Value v)

-- `a ++ b`: two texts or two lists joined, after the check of the limits; the error `kind` for other values
abbrev pub concatenated_at : Value-F Value → Value-F Value → Value
concatenated_at (Value-F.Text left) (Value-F.Text right) = fit (value.Text (left ++ right))
concatenated_at (Value-F.List left) (Value-F.List right) = fit (value.List (left ++ right))
concatenated_at left right = value.Fault Kind

-- `a ++ b`
abbrev pub concatenation : Value → Value → Value
concatenation left right = concatenated_at (out-Value left) (out-Value right)

-- the item at an index from 0, if there is one
abbrev pub item_at : List Value → ℤ → Option Value
item_at items (pos i) = slice_get items i
item_at items (negsuc i) = None

-- the item, if there is one, else the error `index`
abbrev pub item_or_fault : Option Value → Value
item_or_fault (Some item) = item
item_or_fault None = value.Fault Index

-- `nth(l, i)`: the item of a list at an index; the error `kind` if l is not a list or i is not a number
abbrev pub nth_at : Value-F Value → Value-F Value → Value
nth_at (Value-F.List items) (Value-F.Num i) = item_or_fault (item_at items i)
nth_at list i = value.Fault Kind

-- `nth(l, i)`
abbrev pub nth_of : Value → Value → Value
nth_of list i = nth_at (out-Value list) (out-Value i)

-- `append(l, v)`: a list with one more item at its end, after the check of the limits; the error `kind` if l is not a list
abbrev pub appended_at : Value-F Value → Value → Value
appended_at (Value-F.List items) item = fit (value.List (items ++ item ∷ []))
appended_at list item = value.Fault Kind

-- `append(l, v)`
abbrev pub append_result : Value → Value → Value
append_result list item = appended_at (out-Value list) item
