use Rattle.std.proofs.Common.{arith}
use Rattle.list_tree.proofs.Lists.{few}
use Rattle.list_tree.proofs.list.ListTree.header.Goals as goal

pub overflow_cast-len : goal.overflow_cast-len
overflow_cast-len c =
    let within = few _ _ c.parts.ensures.list in
    let counted = c.len.ensures in
    omega arith
