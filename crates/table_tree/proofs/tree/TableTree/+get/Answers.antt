use Rattle.table_tree.proofs.With.{found_equal, found_greater, found_less}
use Rattle.table_tree.proofs.tree.TableTree.+get.Goals as goal

pub returns-in-Less-clause-value : goal.returns-in-Less-clause-value
returns-in-Less-clause-value t c = cc (found_less c.in-Some.ensures c.args.key.now (cc))

pub returns-in-Equal-clause-value : goal.returns-in-Equal-clause-value
returns-in-Equal-clause-value t c =
    rw (found_equal c.in-Some.ensures c.args.key.now (cc)) (cc (c.value.ensures.value, c.deref-in-Equal.ensures))

pub returns-in-Greater-clause-value : goal.returns-in-Greater-clause-value
returns-in-Greater-clause-value t c = cc (found_greater c.in-Some.ensures c.args.key.now (cc))
