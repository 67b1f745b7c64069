use Rattle.std.proofs.Common.{rules, ◌≡◌, arith}
use Rattle.table_tree.proofs.Tables.{ok_same, well_same}
use Rattle.table_tree.proofs.With.{shorter_left, shorter_right, well_greater, well_less, with_equal, with_greater, with_less}
use Rattle.table_tree.proofs.tree.TableTree.+with_entry.Goals as goal

pub with_entry-requires : goal.with_entry-requires
with_entry-requires t c =
    (omega (arith, shorter_left c.in-Some.ensures), well_less c.in-Some.ensures c.args.entry.value (cc) c.requires)

pub balanced-requires : goal.balanced-requires
balanced-requires t c =
    let entry : c.in_ok-clone-in-Less.field-0.value ≡ c.in-Some.root.entry.now.value = search rules in
    well_same c.requires
    (cc (with_less c.in-Some.ensures c.args.entry.value (cc), c.in_ok-left-in-Less.ensures, c.in_ok-share-in-Less.ensures))

pub fork-requires-in-Equal : goal.fork-requires-in-Equal
fork-requires-in-Equal t c =
    well_same c.requires
    (cc (with_equal c.in-Some.ensures c.args.entry.value (cc), c.in_ok-share-in-Equal.ensures, c.in_ok-share-in-Equal-2.ensures))

pub with_entry-requires-in-Greater : goal.with_entry-requires-in-Greater
with_entry-requires-in-Greater t c =
    (omega (arith, shorter_right c.in-Some.ensures), well_greater c.in-Some.ensures c.args.entry.value (cc) c.requires)

pub balanced-requires-in-Greater : goal.balanced-requires-in-Greater
balanced-requires-in-Greater t c =
    let entry : c.in_ok-clone-in-Greater.field-0.value ≡ c.in-Some.root.entry.now.value = search rules in
    well_same c.requires
    (cc (
      with_greater c.in-Some.ensures c.args.entry.value (cc),
      c.in_ok-right-in-Greater.ensures,
      c.in_ok-share-in-Greater.ensures,
    ))

pub returns-in_ok-share-in-Less : goal.returns-in_ok-share-in-Less
returns-in_ok-share-in-Less t c =
    let entry : c.in_ok-clone-in-Less.field-0.value ≡ c.in-Some.root.entry.now.value = search rules in
    ok_same _ c.balanced.ensures
    (cc (with_less c.in-Some.ensures c.args.entry.value (cc), c.in_ok-left-in-Less.ensures, c.in_ok-share-in-Less.ensures))

pub returns-in_ok-share-in-Equal-2 : goal.returns-in_ok-share-in-Equal-2
returns-in_ok-share-in-Equal-2 t c =
    ok_same _ c.fork-in-Equal-2.ensures
    (cc (with_equal c.in-Some.ensures c.args.entry.value (cc), c.in_ok-share-in-Equal.ensures, c.in_ok-share-in-Equal-2.ensures))

pub returns-in_ok-clone-in-Greater : goal.returns-in_ok-clone-in-Greater
returns-in_ok-clone-in-Greater t c =
    let entry : c.in_ok-clone-in-Greater.field-0.value ≡ c.in-Some.root.entry.now.value = search rules in
    ok_same _ c.balanced-in-Greater-2.ensures
    (cc (
      with_greater c.in-Some.ensures c.args.entry.value (cc),
      c.in_ok-right-in-Greater.ensures,
      c.in_ok-share-in-Greater.ensures,
    ))
