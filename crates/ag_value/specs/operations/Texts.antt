-- Operations on texts. If an argument is an error, `strict` of `Arguments` replaces these results by the error. A definition
-- whose name ends with `_at` takes the outermost levels of values (`out-Value`), and the definition after it takes the values.
-- All definitions are this project's.
use Rattle.std.specs.Prelude.{ℕ, Bool, true, false, List, [], if◌then◌else◌}
use Rattle.std.specs.List.{join_by, list_all}
use Rattle.ag_value.specs.declared.value.ErrorCode.TheVariants.{Kind}
use Rattle.ag_value.specs.declared.value.Value.{Value, out-Value}
use Rattle.ag_value.specs.declared.value.Value.TheOpen.{Value-F}
use Rattle.ag_value.specs.declared.value.Value.TheVariants as value
use Rattle.ag_value.specs.operations.Fitting.{fit}

-- whether a value is a text, from its outermost level
abbrev pub is_text_at : Value-F Value → Bool
is_text_at (Value-F.Text text) = true
is_text_at v = false

-- whether a value is a text
abbrev pub is_text : Value → Bool
is_text v = is_text_at (out-Value v)

-- the bytes of a text; none for another value; from the outermost level
abbrev pub bytes_at : Value-F Value → List ℕ
bytes_at (Value-F.Text text) = text
bytes_at v = []

-- the bytes of a text; none for another value
abbrev pub bytes_of : Value → List ℕ
bytes_of v = bytes_at (out-Value v)

-- the texts, joined with the separator between neighbours, after the check of the limits; the error `kind` if an item is
-- not a text
abbrev pub joined_texts : List Value → List ℕ → Value
joined_texts items separator =
    if list_all is_text items then fit (value.Text (join_by bytes_of separator items)) else value.Fault Kind

-- `join(l, s)`: the texts of a list with a separator between neighbours; the error `kind` if l is not a list or s is not a text
abbrev pub joined_at : Value-F Value → Value-F Value → Value
joined_at (Value-F.List items) (Value-F.Text separator) = joined_texts items separator
joined_at list separator = value.Fault Kind

-- `join(l, s)`
abbrev pub join_result : Value → Value → Value
join_result list separator = joined_at (out-Value list) (out-Value separator)
