-- Tables and lists as values.
use Rattle.std.proofs.Common.{◌≡◌, ℕ, List, sym, ap, ◌∙◌}
use Rattle.ag_value.specs.declared.value.Value.{Value, out-Value}
use Rattle.ag_value.specs.declared.value.Value.TheOpen.{Value-F}
use Rattle.ag_value.specs.declared.value.Value.TheVariants as v
use Rattle.ag_value.specs.declared.value.Value.TheVariants.{outs-List, outs-Table}

-- equal tables have equal pairs
pub equal_pairs : (ps qs : List (List ℕ × Value)) → v.Table ps ≡ v.Table qs → ps ≡ qs
equal_pairs ps qs e =
    let layer : Value-F.Table ps ≡ Value-F.Table qs = sym (outs-Table ps) ∙ (ap out-Value e ∙ outs-Table qs) in
    cc

-- equal lists have equal items
pub equal_items : (xs ys : List Value) → v.List xs ≡ v.List ys → xs ≡ ys
equal_items xs ys e =
    let layer : Value-F.List xs ≡ Value-F.List ys = sym (outs-List xs) ∙ (ap out-Value e ∙ outs-List ys) in
    cc
