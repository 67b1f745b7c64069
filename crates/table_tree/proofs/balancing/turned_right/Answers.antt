use Rattle.std.proofs.Common.{◌∷◌, ◌++◌, [], List, append_assoc}
use Rattle.table_tree.proofs.Keys.{Pair}
use Rattle.table_tree.proofs.Tables.{well_same, well_suffix}
use Rattle.table_tree.proofs.balancing.turned_right.Goals as goal

pub fork-requires-2 : goal.fork-requires-2
fork-requires-2 c =
    let root = c.in-Some.root in
    let p : Pair = root.entry.now.value in
    let after : List Pair = c.args.entry.value ∷ c.args.right in
    let lower : List Pair = c.in_ok-share.field-0 ++ after in
    well_suffix (p ∷ []) lower
    (well_suffix root.left.now (p ∷ lower)
    (well_same c.requires
    (cc (c.in-Some.ensures.parts, c.in_ok-share.ensures, append_assoc root.left.now (p ∷ root.right.now) after))))
