use Rattle.causes.proofs.Common.{◌≡◌, IsChain, places_of, Leads, in_file, LeavesContent, Persists, WhenHonest}
use Rattle.causes.proofs.chain.find_cause.Given as goal

abbrev pub invariant-loop-steps : goal.invariant-loop-steps
invariant-loop-steps g l = record {
  chain : WhenHonest (g.D.Device.is_honest l.device)
      (IsChain (in_file l.grammar l.index (g.D.Device.content l.fn.device)) l.start.places.now l.start.target
      (places_of l.chain.nodes.items) l.target l.steps);
  grammar : l.chain.grammar.now ≡ l.grammar;
  index : l.chain.index.now ≡ l.index;
  leads : Leads l.chain.grammar.now l.chain.index.now l.chain.nodes.items;
  content : LeavesContent (g.D.Device.is_honest l.device) (g.D.Device.content l.fn.device) (g.D.Device.content l.device);
  persists : Persists (g.D.Device.is_honest l.fn.device) (g.D.Device.is_honest l.device) (g.D.Device.failures l.fn.device)
      (g.D.Device.failures l.device) ⊥;
}
