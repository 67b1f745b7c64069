-- A value for worked examples.
use Rattle.std.specs.Prelude.{[], ◌∷◌, negsuc, codes}
use Rattle.ag_value.specs.declared.value.Value.{Value}
use Rattle.ag_value.specs.declared.value.Value.TheVariants as v

-- the table `{"k": [-1, "hi"]}`
abbrev pub nested : Value
nested = v.Table ((codes "k", v.List (v.Num (negsuc 0) ∷ v.Text (codes "hi") ∷ [])) ∷ [])
