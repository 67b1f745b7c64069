use Rattle.planchecker.proofs.Common.{slice_get-get_or}
use Rattle.planchecker.proofs.Loops.{prefix_more, prefix_whole, is_yes, says_yes}
use Rattle.planchecker.proofs.certificate.are_struck.Goals as goal

pub loop-member-preserved : goal.loop-member-preserved
loop-member-preserved c =
    prefix_more _ _ _ _ (slice_get-get_or c.args.set.now _ (0, 0) c.loop-member-test.true) c.loop-member.invariant
    (is_yes c.if-not-has.ensures)

pub returns : goal.returns
returns c = says_yes (λ s a m. prefix_whole _ _ _ c.loop-member-test.false c.loop-member.invariant m.0 (s, a) m.1)
