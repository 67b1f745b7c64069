-- The invariant of the loop of `move_names`.
use Rattle.normalform.proofs.Common.{◌≡◌, texts_of}
use Rattle.normalform.proofs.numbers.moving.move_names.Given as goal

abbrev pub invariant-loop-named : goal.invariant-loop-named
invariant-loop-named l = l.texts.items ≡ texts_of l.yielded
