use Rattle.ag_eval.proofs.Common.{arith, ◌≡◌, ◌++◌, ◌∷◌, ◌∙◌, [], ap, subst, IsWell, gathers}
use Rattle.ag_eval.proofs.list_builder.ListBuilder.push.Goals as goal

pub invariant_of-self-2 : goal.invariant_of-self-2
invariant_of-self-2 c =
    let is : c.push.new.self.items ≡ c.self.inside.items.items ++ c.args.item ∷ [] =
    c.in_ok-push.ensures.items ∙ ap (λ v. c.self.inside.items.items ++ v ∷ []) c.into_value.ensures.value in
    gathers c.self.inside.items.items c.push.new.self.items c.args.item c.self.inside.weight c.self.inside.depth _ _ is
    c.self.invariant (subst IsWell c.into_value.ensures.value c.into_value.ensures.well) c.requires (omega arith)
    (omega arith)
