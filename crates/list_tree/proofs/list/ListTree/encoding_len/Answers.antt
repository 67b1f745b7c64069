use Rattle.std.proofs.Common.{arith}
use Rattle.list_tree.proofs.Lists.{light}
use Rattle.list_tree.proofs.list.ListTree.encoding_len.Goals as goal

pub overflow_add-result : goal.overflow_add-result
overflow_add-result c =
    let within = light _ _ c.parts.ensures.list in
    let counted = c.len.ensures.len in
    let header = c.byte_count.ensures.len in
    omega arith
