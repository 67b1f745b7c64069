use Rattle.ag_eval.proofs.Common.{short_table}
use Rattle.ag_eval.proofs.builtins.lists.length.Goals as goal

pub count-requires-in-Table : goal.count-requires-in-Table
count-requires-in-Table c = rw c.as_slice-in-Table.ensures (short_table _ _ c.in-Table.is c.requires)
