use Rattle.std.proofs.Common.{arith}
use Rattle.table_tree.proofs.Totalling.{joined_totals, with_bounded}
use Rattle.table_tree.proofs.Tables.{well_empty}
use Rattle.table_tree.proofs.With.{well_left, well_right, with_equal, with_greater, with_less}
use Rattle.table_tree.proofs.tree.TableTree.+totals_with.Goals as goal

pub joined-requires-clause-pairs : goal.joined-requires-clause-pairs
joined-requires-clause-pairs t c =
    let changed =
    with_bounded c.in-Some.root.left.now c.totals_with.ensures.totals c.totals-added.ensures.totals c.totals-added.ensures.light
    (well_left c.in-Some.ensures) in
    omega arith

pub joined-requires-clause-bytes : goal.joined-requires-clause-bytes
joined-requires-clause-bytes t c =
    let changed =
    with_bounded c.in-Some.root.left.now c.totals_with.ensures.totals c.totals-added.ensures.totals c.totals-added.ensures.light
    (well_left c.in-Some.ensures) in
    omega arith

pub joined-requires-in-Equal-clause-pairs : goal.joined-requires-in-Equal-clause-pairs
joined-requires-in-Equal-clause-pairs t c = omega arith

pub joined-requires-in-Equal-clause-bytes : goal.joined-requires-in-Equal-clause-bytes
joined-requires-in-Equal-clause-bytes t c = omega arith

pub joined-requires-in-Greater-clause-pairs : goal.joined-requires-in-Greater-clause-pairs
joined-requires-in-Greater-clause-pairs t c =
    let changed =
    with_bounded c.in-Some.root.right.now c.totals_with-in-Greater.ensures.totals c.totals-added.ensures.totals
    c.totals-added.ensures.light (well_right c.in-Some.ensures) in
    omega arith

pub joined-requires-in-Greater-clause-bytes : goal.joined-requires-in-Greater-clause-bytes
joined-requires-in-Greater-clause-bytes t c =
    let changed =
    with_bounded c.in-Some.root.right.now c.totals_with-in-Greater.ensures.totals c.totals-added.ensures.totals
    c.totals-added.ensures.light (well_right c.in-Some.ensures) in
    omega arith

pub returns-in-Less-clause-totals : goal.returns-in-Less-clause-totals
returns-in-Less-clause-totals t c =
    rw (with_less c.in-Some.ensures c.args.entry.now (cc))
    (joined_totals c.totals_with.ensures.totals (rw c.deref.ensures at c.totals-own.ensures.totals) c.totals.ensures.totals
    c.joined.ensures)

pub returns-in-Equal-clause-totals : goal.returns-in-Equal-clause-totals
returns-in-Equal-clause-totals t c =
    rw (with_equal c.in-Some.ensures c.args.entry.now (cc))
    (joined_totals c.totals-in-Equal.ensures.totals c.totals-added.ensures.totals c.totals-in-Equal-2.ensures.totals
    c.joined-in-Equal.ensures)

pub returns-in-Greater-clause-totals : goal.returns-in-Greater-clause-totals
returns-in-Greater-clause-totals t c =
    rw (with_greater c.in-Some.ensures c.args.entry.now (cc))
    (joined_totals c.totals-in-Greater.ensures.totals (rw c.deref.ensures at c.totals-own.ensures.totals)
    c.totals_with-in-Greater.ensures.totals c.joined-in-Greater.ensures)

pub returns-in_default-clause-well : goal.returns-in_default-clause-well
returns-in_default-clause-well t c = rw c.in_default.ensures well_empty
