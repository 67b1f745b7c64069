use Rattle.std.proofs.Common.{◌∙◌, sym}
use Rattle.causes.proofs.chain.Chain.record.Goals as goal

pub returns-in-Some-end-clause-end : goal.returns-in-Some-end-clause-end
returns-in-Some-end-clause-end c = record {
  at = record { number = c.node-node.result; numbered = c.node-node.ensures; ends = sym c.end.ensures ∙ c.in-Some-end.is };
  node = c.in-Some.ensures.left;
}
