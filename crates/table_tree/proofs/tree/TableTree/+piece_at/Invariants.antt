use Rattle.std.proofs.Common.{length}
use Rattle.table_tree.proofs.tree.TableTree.+piece_at.Given as goal

abbrev pub decreases-piece_at : goal.decreases-piece_at
decreases-piece_at l = length l.self.now
