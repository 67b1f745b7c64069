use Rattle.std.proofs.Common.{◌≤◌, ◌-◌, arith}
use Rattle.std.proofs.lemmas.Option.{slice_get-get_or}
use Rattle.ag_scan.proofs.words.Tables.{goes_on, links_below}
use Rattle.ag_scan.proofs.literals.last_prefix.Goals as goal

pub loop-limit-smaller : goal.loop-limit-smaller
loop-limit-smaller c =
    let last = c.loop-limit.limit - 1 in
    let below : c.index_after-limit.result ≤ last =
    rw c.index_after-limit.ensures
    (links_below last c.requires.linked (omega arith) (slice_get-get_or c.args.shorter.now last _ (omega arith))) in
    omega arith

pub loop-limit-preserved : goal.loop-limit-preserved
loop-limit-preserved c =
    let last = c.loop-limit.limit - 1 in
    let below : c.index_after-limit.result ≤ last =
    rw c.index_after-limit.ensures
    (links_below last c.requires.linked (omega arith) (slice_get-get_or c.args.shorter.now last _ (omega arith))) in (
      omega arith,
      rw c.index_after-limit.ensures
          (goes_on c.requires.ordered c.requires.linked c.requires.not_after last c.loop-limit.invariant.0 (omega arith)
          c.loop-limit.invariant.1 (slice_get-get_or c.args.entries.now last _ (omega arith))
          (slice_get-get_or c.args.shorter.now last _ (omega arith)) c.if-begins_with.ensures),
    )
