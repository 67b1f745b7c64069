use Rattle.std.proofs.Common.{arith}
use Rattle.ag_value.proofs.Layers.{depth-Table}
use Rattle.table_tree.proofs.tree.TableTree.depth.Goals as goal

pub overflow_add-result : goal.overflow_add-result
overflow_add-result c = omega arith

pub returns : goal.returns
returns c = omega (arith, depth-Table c.args.self.now)
