-- The invariant of the loop of `move_symbols`.
use Rattle.normalform.proofs.Common.{◌≡◌, map, symbol_of}
use Rattle.normalform.proofs.numbers.moving.move_symbols.Given as goal

abbrev pub invariant-loop-symbol : goal.invariant-loop-symbol
invariant-loop-symbol l = l.moved.items ≡ map symbol_of l.yielded
