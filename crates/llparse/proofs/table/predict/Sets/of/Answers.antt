-- The nullable symbols and the edges of a grammar.
use Rattle.llparse.proofs.Common.{is_marked}
use Rattle.llparse.proofs.look_ahead.Firsts.{edges_below}
use Rattle.llparse.proofs.look_ahead.Follows.{follow_edges_below}
use Rattle.llparse.proofs.table.predict.Sets.of.Goals as goal

pub of_edges-requires : goal.of_edges-requires
of_edges-requires c =
    rw (c.as_slice-2.ensures.value, c.nodes-nodes.ensures, c.of.ensures.symbols, c.of.ensures.literals)
    (edges_below c.args.grammar.now c.of.ensures.accepted
    (is_marked c.in_ok-nullable.nullable.items) c.in_ok-edges.edges.0.items
    (λ e. ((rw c.as_slice.ensures.value at c.in_ok-edges.ensures.first) e).0))

pub of_edges-requires-2 : goal.of_edges-requires-2
of_edges-requires-2 c =
    rw (c.as_slice-3.ensures.value, c.nodes-nodes.ensures, c.of.ensures.symbols, c.of.ensures.literals)
    (follow_edges_below c.args.grammar.now c.of.ensures.accepted
    (is_marked c.in_ok-nullable.nullable.items) c.in_ok-edges.edges.1.items
    (λ e. ((rw c.as_slice.ensures.value at c.in_ok-edges.ensures.follow) e).0))

pub returns : goal.returns
returns c = record {
  nullable_exact = c.in_ok-nullable.ensures;
  first_exact = (
    c.in_ok-edges.edges.0.items,
    rw (← c.as_slice-2.ensures.value, ← c.of.ensures.symbols, ← c.of.ensures.literals, ← c.nodes-nodes.ensures)
        c.in_ok-first.ensures,
    rw c.as_slice.ensures.value at c.in_ok-edges.ensures.first,
  );
  follow_exact = (
    c.in_ok-edges.edges.1.items,
    rw (← c.as_slice-3.ensures.value, ← c.of.ensures.symbols, ← c.of.ensures.literals, ← c.nodes-nodes.ensures)
        c.in_ok-follow.ensures,
    rw c.as_slice.ensures.value at c.in_ok-edges.ensures.follow,
  );
}
