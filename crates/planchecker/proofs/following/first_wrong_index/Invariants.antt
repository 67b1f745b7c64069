use Rattle.planchecker.proofs.Common.{◌≡◌, passes_of, start, state_at}
use Rattle.passcode.proofs.States.{MayRunTo}
use Rattle.planchecker.proofs.following.first_wrong_index.Given as goal

abbrev pub invariant-loop-index : goal.invariant-loop-index
invariant-loop-index l = record {
  phase : l.phase ≡ (state_at l.context.production.now start l.list l.index).phase;
  turn : l.turn ≡ (state_at l.context.production.now start l.list l.index).turn;
  may : MayRunTo (passes_of l.context.assignment.now) l.context.production.now l.context.pass start l.list l.index;
}
