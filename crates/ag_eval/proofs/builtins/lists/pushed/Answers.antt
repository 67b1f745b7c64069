use Rattle.ag_eval.proofs.Common.{◌≡◌, ◌∙◌, ◌++◌, ◌∷◌, [], ap, fits-pushed}
use Rattle.ag_eval.proofs.builtins.lists.pushed.Goals as goal

pub fit-requires : goal.fit-requires
fit-requires c =
    let is : c.from_vec.result ≡ c.args.items ++ c.args.item ∷ [] =
    c.from_vec.ensures ∙ c.in_ok-push.ensures.items ∙ ap (λ xs. xs ++ c.args.item ∷ []) c.into_vec-items.ensures in
    let fits =
    fits-pushed c.args.items c.from_vec.result c.args.item c.args.weight c.args.depth is c.requires.list c.requires.item
    c.requires.no_fault c.requires.weighed c.requires.depth_exact in
    record { item = fits.0; weighed = fits.1; depth_exact = fits.2 }
