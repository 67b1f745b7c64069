use Rattle.std.proofs.Common.{◌-◌, length}
use Rattle.ag_value.specs.Spelling.{spelling_of}
use Rattle.ag_value.specs.declared.value.Value.TheVariants as v
use Rattle.table_tree.proofs.Encoded.{IsCopied}
use Rattle.table_tree.proofs.tree.TableTree.copy_part.Given as goal

abbrev pub invariant-loop-done : goal.invariant-loop-done
invariant-loop-done l = IsCopied l.from l.done l.out (spelling_of (v.Table l.self)) (length l.fn.out)

abbrev pub decreases-loop-done : goal.decreases-loop-done
decreases-loop-done l = length l.initial.out - l.done
