use Rattle.passassign.proofs.Common.{refl}
use Rattle.passassign.proofs.slots.Linked.{all_in_table}
use Rattle.passassign.proofs.strikes.ReportedStrikes.{edges_below}
use Rattle.passassign.proofs.search.Dependencies.of.Goals as goal

pub of_edges-requires : goal.of_edges-requires
of_edges-requires c =
    let r = c.requires.accepted in
    rw (c.as_slice-2.ensures.value, c.in_ok-edges.ensures, c.as_slice.ensures.value)
    (edges_below c.in_ok-all.all.items c.args.count
    (all_in_table r.0 c.in_ok-all.all.items r.1 (rw r.2 c.in_ok-all.ensures) c.args.count r.3))

pub returns-clause-ready : goal.returns-clause-ready
returns-clause-ready c =
    let r = c.requires.accepted in
    record {
      edges = rw (c.in_ok-edges-2.ensures, c.as_slice-2.ensures.value, c.in_ok-edges.ensures, c.as_slice.ensures.value) refl;
      within = all_in_table r.0 c.in_ok-all.all.items r.1 (rw r.2 c.in_ok-all.ensures) c.args.count r.3;
    }
