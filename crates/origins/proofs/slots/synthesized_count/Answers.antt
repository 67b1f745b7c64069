use Rattle.origins.proofs.Common.{◌≡◌, Some, slice_get, ap, sym, length, length-append, arith, slice_get-get_or, slice_get_past}
use Rattle.treefile.specs.records.Records.{synthesized_count}
use Rattle.origins.proofs.slots.synthesized_count.Goals as goal

pub returns-in-Some-clause-room : goal.returns-in-Some-clause-room
returns-in-Some-clause-room c =
    let h = c.in-Some.ensures.lookup in
    let s = c.in-Some.symbol.now in
    let there : slice_get c.symbols.result.now c.args.symbol ≡ Some s =
    cc (slice_get-get_or c.symbols.result.now c.args.symbol s h.3.0, h.3.1 s) in
    let few = c.symbols.ensures.accepted.limits.attribute_count c.args.symbol s (rw c.symbols.ensures.lent at there) in
    omega (arith, few, length-append s.syn s.inh, ap length c.as_slice.ensures)

pub returns-in-None-clause-count : goal.returns-in-None-clause-count
returns-in-None-clause-count c =
    let h = c.in-None.ensures.lookup in
    let nothing = rw c.symbols.ensures.lent at (slice_get_past c.symbols.result.now c.args.symbol h.3) in
    sym (ap synthesized_count nothing)
