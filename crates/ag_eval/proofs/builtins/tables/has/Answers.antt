use Rattle.ag_eval.proofs.Common.{rising_table}
use Rattle.ag_eval.proofs.builtins.tables.has.Goals as goal

pub pair_with-requires : goal.pair_with-requires
pair_with-requires c = rw c.as_slice.ensures (rising_table c.args.table.now _ c.in-Table-Text.is-0 c.requires)
