-- The invariant of the loop of `all_have_few_attributes`.
use Rattle.normalform.proofs.Common.{◌≡◌, map, drop, list_all, few_attributes, symbol_of}
use Rattle.normalform.proofs.faults.limits.all_have_few_attributes.Given as goal

abbrev pub invariant-loop-symbol : goal.invariant-loop-symbol
invariant-loop-symbol l =
    list_all few_attributes (map symbol_of (drop l.symbol-index l.symbols)) ≡ list_all few_attributes (map symbol_of l.symbols)
