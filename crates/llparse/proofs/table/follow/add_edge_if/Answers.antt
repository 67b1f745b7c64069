use Rattle.llparse.proofs.Common.{inl, inr}
use Rattle.llparse.proofs.table.follow.add_edge_if.Goals as goal

pub returns-in_ok-add_edge : goal.returns-in_ok-add_edge
returns-in_ok-add_edge c = record {
  kept = c.in_ok-add_edge.ensures.kept;
  all = λ e h. c.in_ok-add_edge.ensures.all e h.1;
  only = λ e h. elim (c.in_ok-add_edge.ensures.only e h) [
    | inl old ↦ inl old
    | inr new ↦ inr (c.if-wanted.true, new)
  ];
}
