-- Values that are lists. All definitions are this project's.
use Rattle.std.specs.Prelude.{Bool, true, false}
use Rattle.ag_value.specs.declared.value.Value.{Value, out-Value}
use Rattle.ag_value.specs.declared.value.Value.TheOpen.{Value-F}

-- whether a value is a list, from its outermost level
abbrev pub is_list_at : Value-F Value → Bool
is_list_at (Value-F.List items) = true
is_list_at v = false

-- whether a value is a list
abbrev pub is_list : Value → Bool
is_list v = is_list_at (out-Value v)
