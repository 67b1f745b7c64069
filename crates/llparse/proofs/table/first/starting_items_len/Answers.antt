use Rattle.llparse.proofs.Common.{sym}
use Rattle.llparse.proofs.look_ahead.Edges.{prefix_step, prefix_stop, prefix_whole}
use Rattle.llparse.proofs.table.first.starting_items_len.Goals as goal

pub returns-then-not-is_nullable_item-clause-items : goal.returns-then-not-is_nullable_item-clause-items
returns-then-not-is_nullable_item-clause-items c =
    prefix_stop _ _ _ _ c.loop-at-test.true (sym c.if-not-is_nullable_item.ensures) c.loop-at.invariant

pub loop-at-preserved : goal.loop-at-preserved
loop-at-preserved c = prefix_step _ _ _ _ c.loop-at-test.true (sym c.if-not-is_nullable_item.ensures) c.loop-at.invariant

pub returns-clause-items : goal.returns-clause-items
returns-clause-items c = prefix_whole _ _ _ c.loop-at-test.false c.loop-at.invariant
