use Rattle.passassign.proofs.Common.{refl, slice_get_read}
use Rattle.passassign.proofs.slots.TableRows.{rows_more, rows_end}
use Rattle.passassign.proofs.table.rows.Goals as goal

pub loop-index-preserved : goal.loop-index-preserved
loop-index-preserved c =
    rows_more c.loop-index.rows.items c.push.new.self.items c.in_ok-row.field-0 c.args.symbols.now c.args.states.now
    c.loop-index.index c.index-symbols-index.result c.in_ok-push.ensures.items
    (slice_get_read c.args.symbols.now _ c.loop-index.index c.index-symbols-index.result refl c.loop-index-test.true
    c.index-symbols-index.is) (rw c.attribute_count.ensures at c.in_ok-row.ensures.len)
    (λ a less. c.in_ok-row.ensures.passes a (rw c.attribute_count.ensures less)) c.loop-index.invariant

pub returns : goal.returns
returns c = rows_end c.loop-index-test.false c.loop-index.invariant
