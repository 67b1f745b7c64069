-- A pass of a plan is sound.
use Rattle.planchecker.proofs.Common.{◌-◌, [], arith, slice_get_within, slice_get-get_or, passes_of, lists_of}
use Rattle.passcode.proofs.Lawful.{lists_run}
use Rattle.passcode.proofs.lists.Shaped.{list_there}
use Rattle.planchecker.specs.Laws.{PlansAreSound}
use Rattle.passcode.specs.Settings.{list_at, setting_of}

pub plans_are_sound : PlansAreSound
plans_are_sound g plan passes k accepted is greatest one most = record {
  accepted = accepted;
  legal = is.legal;
  course = λ p q occurs. (
      let lists = lists_of plan.code p in
      let within = slice_get_within g.productions p q occurs in
      let there = list_there g plan.assignment plan.code passes p k is.shape.lists greatest within most in
      let at = slice_get-get_or lists (k - 1) [] (let long = there.1 in omega arith) in
      let xs = list_at (setting_of g plan k) p in
      let runs = lists_run g (passes_of plan.assignment) p k q xs accepted is.legal occurs one in
      runs.0 (is.agrees p k q xs occurs (one, at)));
  next = omega arith;
}
