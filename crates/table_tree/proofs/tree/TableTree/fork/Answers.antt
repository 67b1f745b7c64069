use Rattle.std.proofs.Common.{arith, subst}
use Rattle.ag_value.specs.Spelling.{spelling_of_pair}
use Rattle.table_tree.specs.Totals.{AreBytes}
use Rattle.table_tree.proofs.Keys.{Pair}
use Rattle.table_tree.proofs.Bytes.{bytes_around}
use Rattle.table_tree.proofs.Totalling.{joined_totals}
use Rattle.table_tree.proofs.tree.TableTree.fork.Goals as goal

pub joined-totals-requires-clause-pairs : goal.joined-totals-requires-clause-pairs
joined-totals-requires-clause-pairs c = omega arith

pub joined-totals-requires-clause-bytes : goal.joined-totals-requires-clause-bytes
joined-totals-requires-clause-bytes c = omega arith

pub invariant_of-result : goal.invariant_of-result
invariant_of-result c =
    rw c.in_ok-branch.ensures.ok (record {
      well = c.requires;
      are =
          joined_totals c.totals.ensures.totals (rw c.as_ref.ensures at c.totals-2.ensures.totals) c.totals-3.ensures.totals
          c.joined-totals.ensures;
      bytes =
          bytes_around c.args.left c.args.entry.value c.args.right c.totals.ensures.bytes
          (subst (λ (p : Pair). AreBytes (spelling_of_pair p)) c.as_ref.ensures c.totals-2.ensures.bytes)
          c.totals-3.ensures.bytes;
      block_is = rw c.as_ref-2.ensures at c.in_ok-block.ensures;
    })
