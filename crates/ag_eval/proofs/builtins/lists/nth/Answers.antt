use Rattle.ag_eval.proofs.Common.{ap, sym, ◌∙◌, option_copied, item_at, well_nth}
use mir.Syntax.{w64}
use mir.Val.{of_z, to_z}
use Rattle.ag_eval.proofs.builtins.lists.nth.Goals as goal

pub from_lent-requires : goal.from_lent-requires
from_lent-requires c =
    let index = to_z w64 (of_z w64 c.in-List-Num.index) in
    well_nth c.args.list.now c.in-List-Num.items index c.in-Some.item.now c.in-List-Num.is-0 c.requires
    (ap (λ xs. item_at xs index) (sym c.as_slice.ensures) ∙ sym c.item_at.ensures ∙ ap option_copied c.in-Some.is)
