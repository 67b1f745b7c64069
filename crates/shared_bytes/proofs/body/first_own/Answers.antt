use Rattle.std.proofs.Common.{refl}
use Rattle.shared_bytes.proofs.Splicing.{cut_first}
use Rattle.shared_bytes.proofs.body.first_own.Goals as goal

pub returns-clause-cut : goal.returns-clause-cut
returns-clause-cut c =
    cut_first c.args.start.base c.args.start.at c.args.splices.now c.in_ok-own.own c.args.offset c.in_ok-own.ensures.following
    c.in_ok-own.ensures.at (c.if-not-is_before.ensures refl)
