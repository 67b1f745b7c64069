use Rattle.std.proofs.Common.{◌∷◌, ◌++◌, List, append_assoc}
use Rattle.table_tree.proofs.Keys.{Pair}
use Rattle.table_tree.proofs.Tables.{well_prefix, well_same}
use Rattle.table_tree.proofs.balancing.turned_left.Goals as goal

pub fork-requires-2 : goal.fork-requires-2
fork-requires-2 c =
    let root = c.in-Some.root in
    let lower : List Pair = c.args.entry.value ∷ c.in_ok-share.field-0 in
    let rest : List Pair = root.entry.now.value ∷ root.right.now in
    well_prefix (c.args.left ++ lower) rest
    (well_same c.requires (cc (c.in-Some.ensures.parts, c.in_ok-share.ensures, append_assoc c.args.left lower rest)))
