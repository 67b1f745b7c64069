use Rattle.passassign.proofs.Common.{Members, StrikesAll}
use Rattle.passassign.proofs.making.Rest.{all_for}
use Rattle.passassign.proofs.strikes.Walked.{of_three, walked}
use Rattle.passassign.proofs.stuck.Stuck.chain_of.Goals as goal

pub returns : goal.returns
returns c = record {
  chain =
      let g = c.args.grammar.now in
      let d = c.args.direction in
      let set = c.args.self.now.set in
      let s = c.args.attribute.0 in
      let a = c.args.attribute.1 in
      let xs = c.of_direction.result.now in
      of_three c.chain_in.result _ _ _ _ (λ links linked among first is member.
      let all : StrikesAll g d (Members set) xs = rw c.of_direction.ensures (all_for g c.args.self.now is d) in
      walked g d (Members set) xs links.items s a all.good
      (all.all s a member) linked among first) c.chain_in.ensures.linked c.chain_in.ensures.among c.chain_in.ensures.first;
}
