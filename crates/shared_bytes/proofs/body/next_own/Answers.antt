use Rattle.std.proofs.Common.{rules, ◌≡◌, ◌+◌, length, refl}
use Rattle.shared_bytes.proofs.Splicing.{cut_after_splice}
use Rattle.shared_bytes.proofs.body.next_own.Goals as goal

pub returns-clause-cut : goal.returns-clause-cut
returns-clause-cut c =
    let begins : c.in_ok-after.after ≡ c.index-splices-count.result.at + length c.index-splices-count.result.bytes =
    search rules in
    cut_after_splice c.args.start.base c.args.start.at c.args.splices.now c.args.count c.in_ok-own.own c.args.offset
    c.in_ok-after.after c.index-splices-count.result c.requires.some c.requires.few c.index-splices-count.is
    begins c.in_ok-own.ensures.following c.in_ok-own.ensures.at (c.if-not-is_before.ensures refl)
