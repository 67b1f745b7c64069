use Rattle.std.proofs.Common.{sym, arith}
use Rattle.std.proofs.lemmas.Option.{slice_get-get_or}
use Rattle.ag_scan.proofs.words.Beginnings.{one_covered}
use Rattle.ag_scan.proofs.starts.starts_of.Goals as goal

pub loop-index-preserved : goal.loop-index-preserved
loop-index-preserved c =
    let there = slice_get-get_or c.args.entries.now c.loop-index.index _ (omega arith) in
    rw c.with_one.ensures
    (one_covered c.loop-index.invariant there c.first_byte-first.ensures.1 (omega arith) (sym c.index-start.ensures))
