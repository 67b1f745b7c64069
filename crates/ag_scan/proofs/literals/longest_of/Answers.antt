use Rattle.std.proofs.Common.{◌<◌, length, arith}
use Rattle.std.proofs.lemmas.Option.{slice_get-get_or}
use Rattle.ag_scan.proofs.words.Tables.{last_is_longest}
use Rattle.ag_scan.proofs.literals.longest_of.Goals as goal

pub returns : goal.returns
returns c =
    let within : c.in_ok-index.index < length c.args.entries.now = omega (arith, c.in_ok-index.ensures.below) in
    last_is_longest c.requires c.count_not_after-bound.ensures.not_after c.count_not_after-bound.ensures.others
    c.in_ok-index.ensures (slice_get-get_or c.args.entries.now c.in_ok-index.index _ within)
