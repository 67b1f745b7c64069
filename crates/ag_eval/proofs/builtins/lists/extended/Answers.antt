use Rattle.ag_eval.proofs.Common.{◌≡◌, ◌∙◌, ◌++◌, ap, fits-together}
use Rattle.ag_eval.proofs.builtins.lists.extended.Goals as goal

pub fit-requires : goal.fit-requires
fit-requires c =
    let is : c.from_vec.result ≡ c.args.items ++ c.args.more =
    c.from_vec.ensures ∙ c.in_ok-append.ensures.items ∙ ap (λ xs. xs ++ c.into_vec.result.items) c.into_vec-items.ensures
    ∙ ap (λ ys. c.args.items ++ ys) c.into_vec.ensures in
    let fits =
    fits-together c.args.items c.args.more c.from_vec.result c.args.weight c.args.depth is c.requires.left c.requires.right
    c.requires.weighed c.requires.depth_exact in
    record { item = fits.0; weighed = fits.1; depth_exact = fits.2 }
