use Rattle.ag_eval.proofs.Common
use Common.{◌∙◌, ap, fit}
use Common.value
use Rattle.ag_eval.proofs.Putting.{item_set, replaced_is}
use Rattle.ag_eval.proofs.builtins.tables.replaced.Goals as goal

pub set_value-requires : goal.set_value-requires
set_value-requires c = rw c.into_vec-pairs.ensures c.requires.within

pub weighed-requires : goal.weighed-requires
weighed-requires c =
    item_set c.args.pairs c.from_vec.result c.args.index c.args.item c.requires.within
    (λ p at. c.from_vec.ensures ∙ rw c.into_vec-pairs.ensures at c.set_value.ensures p at) c.requires.table c.requires.item

pub returns : goal.returns
returns c =
    λ key place here. c.weighed.ensures
    ∙ ap (λ ps. fit (value.Table ps)) (replaced_is c.args.pairs c.from_vec.result c.args.index c.args.item c.requires.within
    (λ p at. c.from_vec.ensures ∙ rw c.into_vec-pairs.ensures at c.set_value.ensures p at) key place here)
