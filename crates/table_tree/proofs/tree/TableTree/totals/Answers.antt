use Rattle.std.proofs.Common.{rules, ◌≡◌, []}
use Rattle.table_tree.proofs.Tables.{well_empty, well_same}
use Rattle.table_tree.proofs.Totalling.{small}
use Rattle.table_tree.proofs.tree.TableTree.totals.Goals as goal

pub returns-in-Leaf-clause-well : goal.returns-in-Leaf-clause-well
returns-in-Leaf-clause-well c = let empty : [] ≡ c.args.self.now = search rules in well_same well_empty empty

pub returns-in-Fork-clause-small : goal.returns-in-Fork-clause-small
returns-in-Fork-clause-small c = small {pairs = c.args.self.now} (search rules) (search rules)
