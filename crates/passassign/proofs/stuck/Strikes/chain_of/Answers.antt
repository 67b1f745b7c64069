use Rattle.passassign.proofs.Common.{direction_of, AreAwaitedBefore, AreLinked, AreStrikesAt, HasPassFrom, passes_of}
use Rattle.passassign.proofs.making.NoEarlier.{strikes_at}
use Rattle.passassign.proofs.strikes.Walked.{of_three, walked}
use Rattle.passassign.proofs.stuck.Strikes.chain_of.Goals as goal

pub returns : goal.returns
returns c = record {
  chain =
      let g = c.args.grammar.now in
      let k = c.args.pass in
      let s = c.args.attribute.0 in
      let a = c.args.attribute.1 in
      let xs = c.of_pass-2.result.now in
      of_three c.chain_in.result _ _ _ _ (λ links linked among first rows are from later.
      let at : AreStrikesAt g (passes_of rows) k xs =
      rw c.of_pass-2.ensures (strikes_at g rows c.args.self.now.lists are k s a from later) in
      let link : AreAwaitedBefore g (direction_of k) xs → AreLinked g (direction_of k) links.items =
      rw c.of_pass.ensures at linked in
      walked g (direction_of k) (HasPassFrom (passes_of rows) k) xs links.items s a at.good
      (at.all s a later) link among first) c.chain_in.ensures.linked c.chain_in.ensures.among c.chain_in.ensures.first;
}
