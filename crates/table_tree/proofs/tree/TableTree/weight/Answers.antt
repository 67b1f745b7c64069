use Rattle.std.proofs.Common.{arith}
use Rattle.ag_value.proofs.Layers.{weight-Table}
use Rattle.table_tree.proofs.tree.TableTree.weight.Goals as goal

pub returns-clause-weight : goal.returns-clause-weight
returns-clause-weight c = omega (arith, weight-Table c.args.self.now)
