use Rattle.passcode.proofs.Common.{ℕ, ◌≡◌, ◌+◌, [], ap, arith, item_at, passes_of, place_of, visit}
use Rattle.passcode.proofs.Loops.{pushed_more}
use Rattle.passcode.proofs.course.ListContext.list.Goals as goal

pub loop-turn-preserved : goal.loop-turn-preserved
loop-turn-preserved c =
    let q = c.args.self.now.production.now in
    let k : ℕ = c.args.self.now.pass in
    let turn : ℕ = c.loop-turn.turn in
    let nth = rw (c.of_pass-direction.ensures, c.requires.children) at c.nth.ensures.nth in
    let place : 1 + c.nth.result ≡ place_of q k turn = omega arith in
    pushed_more _ turn [] _ _ _ c.loop-turn.invariant c.in_ok-append_visit.ensures
    (ap (λ j. visit (passes_of c.args.self.now.assignment.now) q k [] j (item_at q j)) place)
