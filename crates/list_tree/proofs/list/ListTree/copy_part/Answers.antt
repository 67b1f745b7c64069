use Rattle.std.proofs.Common.{◌∙◌, List, ap, arith}
use Rattle.ag_value.specs.declared.value.Value.{Value}
use Rattle.ag_value.specs.declared.value.Value.TheVariants as v
use Rattle.ag_value.specs.Measure.{weight_of}
use Rattle.list_tree.proofs.Lists.{size}
use Rattle.list_tree.proofs.list.ListTree.copy_part.Goals as goal

pub copy_after-requires : goal.copy_after-requires
copy_after-requires c =
    let all =
    size _ _ c.parts.ensures.list ∙ ap (λ (items : List Value). weight_of (v.List items)) c.parts.ensures.items in
    let within = c.requires in
    omega arith
