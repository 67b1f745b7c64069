use Rattle.treefile.proofs.Common.{◌≡◌, ◌++◌, drop, flat_map, spelling_of}
use Rattle.treefile.proofs.writing.append_values.Given as goal

abbrev pub invariant-loop-value : goal.invariant-loop-value
invariant-loop-value l =
    l.buffer.items ++ flat_map spelling_of (drop l.value-index l.values) ≡ l.fn.buffer.items ++ flat_map spelling_of l.values
