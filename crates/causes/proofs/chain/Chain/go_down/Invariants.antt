use Rattle.causes.proofs.Common.{◌≡◌, take, places_of, Leads}
use Rattle.causes.proofs.chain.Chain.go_down.Given as goal

abbrev pub invariant-loop-place : goal.invariant-loop-place
invariant-loop-place l = record {
  places : places_of l.self.nodes.items ≡ take l.place-index l.places;
  grammar : l.self.grammar ≡ l.fn.self.grammar;
  index : l.self.index ≡ l.fn.self.index;
  leads : Leads l.self.grammar.now l.self.index.now l.self.nodes.items;
}
