use Rattle.std.proofs.Common.{◌∙◌, ◌+◌, ℕ, List, ap, arith}
use Rattle.ag_value.specs.declared.value.Value.{Value}
use Rattle.ag_value.specs.declared.value.Value.TheVariants as v
use Rattle.ag_value.specs.Measure.{weight_of}
use Rattle.list_tree.proofs.Lists.{light, size}
use Rattle.list_tree.proofs.list.ListTree.weight.Goals as goal

pub overflow_add-result : goal.overflow_add-result
overflow_add-result c =
    let within = light _ _ c.parts.ensures.list in
    let counted = c.len.ensures.len in
    omega arith

pub returns-clause-weight : goal.returns-clause-weight
returns-clause-weight c =
    ap (λ (n : ℕ). 5 + n) c.len.ensures.len
    ∙ (size _ _ c.parts.ensures.list ∙ ap (λ (items : List Value). weight_of (v.List items)) c.parts.ensures.items)
