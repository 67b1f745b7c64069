use Rattle.ag_eval.proofs.Common.{◌∙◌, ap, sym, option_copied, pair_with, rising_table, well_got}
use Rattle.ag_eval.proofs.builtins.tables.get.Goals as goal

pub pair_with-requires : goal.pair_with-requires
pair_with-requires c = rw c.as_slice.ensures (rising_table c.args.table.now _ c.in-Table-Text.is-0 c.requires)

pub from_lent-requires : goal.from_lent-requires
from_lent-requires c =
    let key = c.as_str.result.now in
    well_got c.args.table.now c.in-Table-Text.pairs key c.in-Some.pair.now c.in-Table-Text.is-0 c.requires
    (ap (pair_with key) (sym c.as_slice.ensures) ∙ sym c.pair_with.ensures ∙ ap option_copied c.in-Some.is)
