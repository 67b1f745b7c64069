use Rattle.std.proofs.Common.{ap, arith, length}
use Rattle.ag_value.proofs.Layers.{spelling-List}
use Rattle.list_tree.proofs.list.ListTree.has_encoding.Goals as goal

pub split_at-requires : goal.split_at-requires
split_at-requires c =
    let whole = ap length (spelling-List c.args.self.now) in
    let counted = c.encoding_len.ensures.len in
    let same = c.if-bytes-encoding_len.false in
    omega arith
