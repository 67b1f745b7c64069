-- A table of values with some of them changed. All definitions are this project's.
use Rattle.std.specs.Prelude.{ℕ, zero, suc, ◌&&◌, nat_eq, cond}
use Rattle.ag_value.specs.declared.value.Value.{Value}
use Rattle.pass_rows.specs.Places.{Table}

-- The table e with v as the value of attribute a at place j. i and b are the place and the attribute that are looked up.
abbrev pub set : Table → ℕ → ℕ → Value → Table
set e j a v i b = cond (nat_eq i j && nat_eq b a) v (e i b)

-- The table e with f as the values at place j.
abbrev pub with_row : Table → ℕ → (ℕ → Value) → Table
with_row e j f i = cond (nat_eq i j) f (e i)

-- The table with the values f at the node itself (place 0), and those of the table s at its children.
abbrev pub node_table : (ℕ → Value) → Table → Table
node_table f s zero = f
node_table f s (suc j) = s (suc j)
