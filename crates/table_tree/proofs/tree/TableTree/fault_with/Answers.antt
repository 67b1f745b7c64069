use Rattle.std.proofs.Common.{arith}
use Rattle.table_tree.proofs.Totalling.{fault_of, room}
use Rattle.table_tree.proofs.tree.TableTree.fault_with.Goals as goal

pub joined-most-requires-clause-pairs : goal.joined-most-requires-clause-pairs
joined-most-requires-clause-pairs c = omega arith

pub joined-most-requires-clause-bytes : goal.joined-most-requires-clause-bytes
joined-most-requires-clause-bytes c = omega arith

pub returns-in-None-clause-fault : goal.returns-in-None-clause-fault
returns-in-None-clause-fault c =
    room c.none.ensures c.totals.ensures.totals c.totals-2.ensures.totals c.joined-most.ensures c.in-None.ensures

pub returns-in-Some-clause-fault : goal.returns-in-Some-clause-fault
returns-in-Some-clause-fault c =
    fault_of c.limit_fault-in-Some.result c.totals_with.ensures.totals c.limit_fault-in-Some.ensures
