use Rattle.std.proofs.Common.{arith}
use Rattle.std.proofs.lemmas.Result.{err_from_is_err_and}
use Rattle.ag_value.specs.Reading.{item_at, pair_at}
use Rattle.ag_value.proofs.Turns.{goes_on, stops}
use Rattle.ag_value.proofs.spelling.decoding.+reading.Goals as goal

pub items_of-loop-preserved : goal.items_of-loop-preserved
items_of-loop-preserved t c =
    rw c.in_ok-push.ensures.items
    (goes_on (item_at c.args.levels) c.args.count c.loop.counter c.loop.items.items c.loop.rest.now _ _ _
    (omega arith) c.in_ok-item.ensures c.loop.invariant)

pub items_of-returns-in_err-item : goal.items_of-returns-in_err-item
items_of-returns-in_err-item t c =
    let p = err_from_is_err_and c.from_residual-in_err-item.result c.from_residual-in_err-item.ensures.1 in
    rw (p.1, p.2)
    (stops (item_at c.args.levels) c.args.count c.loop.counter c.loop.items.items c.loop.rest.now _ c.in_err-item.field-0.0
    (omega arith) c.in_err-item.ensures c.loop.invariant)

pub pairs_of-loop-preserved : goal.pairs_of-loop-preserved
pairs_of-loop-preserved t c =
    rw c.in_ok-push.ensures.items
    (goes_on (pair_at (item_at c.args.levels)) c.args.count c.loop.counter c.loop.pairs.items c.loop.rest.now _ _ _
    (omega arith) c.in_ok-pair.ensures c.loop.invariant)

pub pairs_of-returns-in_err-pair : goal.pairs_of-returns-in_err-pair
pairs_of-returns-in_err-pair t c =
    let p = err_from_is_err_and c.from_residual-in_err-pair.result c.from_residual-in_err-pair.ensures.1 in
    rw (p.1, p.2)
    (stops (pair_at (item_at c.args.levels)) c.args.count c.loop.counter c.loop.pairs.items c.loop.rest.now _
    c.in_err-pair.field-0.0 (omega arith) c.in_err-pair.ensures c.loop.invariant)
