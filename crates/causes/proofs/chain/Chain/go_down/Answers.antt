use Rattle.causes.proofs.Stops.{leads_nowhere}
use Rattle.causes.proofs.chain.Chain.go_down.Goals as goal

pub returns-then-not-branch-clause-none : goal.returns-then-not-branch-clause-none
returns-then-not-branch-clause-none c =
    let so_far = c.loop-place.invariant in
    λ none. leads_nowhere c.args.places.now c.loop-place.place-index so_far.grammar so_far.index so_far.places
    c.loop-place-test.true (c.in_ok-go_to_child.ensures.none c.if-not-branch.true)
