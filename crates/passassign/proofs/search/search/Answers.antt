use Rattle.closure.specs.Additions.{IsAddedBefore}
use Rattle.passassign.proofs.strikes.ReportedStrikes.{named, seeds_below, is_search}
use Rattle.passassign.proofs.search.search.Goals as goal

pub find-requires : goal.find-requires
find-requires c =
    rw (c.requires.edges, c.as_slice-2.ensures.value, c.in_ok-seeds.ensures, c.as_slice.ensures.value)
    (seeds_below c.args.dependencies.now.all.items c.in_ok-barred.barred.items c.args.direction c.args.states.now
    (rw c.as_slice-all.ensures.value at c.in_ok-barred.ensures) _ c.requires.within)

pub strikes_of-requires : goal.strikes_of-requires
strikes_of-requires c = λ i x e.
    let found =
    rw (c.requires.edges, c.as_slice-2.ensures.value, c.in_ok-seeds.ensures, c.as_slice.ensures.value) at c.in_ok-found.ensures in
    rw (c.as_slice-all.ensures.value, c.as_slice-3.ensures.value)
    (named c.args.dependencies.now.all.items c.in_ok-barred.barred.items (IsAddedBefore c.in_ok-found.found.added.items i)
    x.number x.reason (found.order.reasoned i x (rw c.as_slice-4.ensures.value at e)))

pub returns : goal.returns
returns c =
    let found =
    rw (c.requires.edges, c.as_slice-2.ensures.value, c.in_ok-seeds.ensures, c.as_slice.ensures.value) at c.in_ok-found.ensures in
    is_search c.args.dependencies.now.all.items c.in_ok-barred.barred.items c.args.direction c.args.states.now
    (rw c.as_slice-all.ensures.value at c.in_ok-barred.ensures) c.in_ok-found.found.added.items found.order
    c.in_ok-strikes.strikes.items
    (rw (c.as_slice-all.ensures.value, c.as_slice-3.ensures.value, c.as_slice-4.ensures.value) at c.in_ok-strikes.ensures)
    c.in_ok-found.found.marks.items found.added found.marks
