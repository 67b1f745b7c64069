use Rattle.ag_eval.proofs.Common
use Common.{refl, well_keys}
use Common.value
use Rattle.ag_eval.proofs.builtins.table_trees.keys.Goals as goal

pub returns-clause-well : goal.returns-clause-well
returns-clause-well c =
    well_keys (value.Table c.args.table.now) c.args.table.now c.in_ok-keys.field-0 refl c.weight-weight.ensures.well
    c.in_ok-keys.ensures
