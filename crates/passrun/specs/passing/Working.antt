-- A measure of the remaining work of a pass, which falls with each instruction. All definitions are this
-- project's.
use Rattle.std.specs.Prelude.{ℕ, suc, ◌+◌, ◌*◌, ◌-◌, if◌then◌else◌, List, [], ◌∷◌, Option, Some, None, length, slice_index_or}
use Rattle.ag_grammar.specs.grammars.Tree.{max_nodes}
use Rattle.passcode.specs.Rows.{Lists}
use Rattle.passcode.specs.Settings.{Setting}
use Rattle.passrun.specs.declared.passing.machine.Machine.{Machine}
use Rattle.pass_rows.specs.declared.open_node.OpenNode.{OpenNode}
use Rattle.passrun.specs.passing.Ahead.{goes_next}
use Rattle.pass_rows.specs.Places.{rest_of}
use Rattle.passrun.specs.passing.Running.{stack_of}

-- The number of remaining instructions of some open nodes, plus one for each of them.
abbrev pub remaining_work : Setting → List OpenNode → ℕ
remaining_work c [] = 0
remaining_work c (x ∷ xs) = suc (length (rest_of c x)) + remaining_work c xs

-- The number of instructions in all lists of the pass with index k (pass k + 1).
abbrev pub all_of : Lists → ℕ → ℕ
all_of [] k = 0
all_of (row ∷ rows) k = length (slice_index_or row k []) + all_of rows k

-- The number of instructions in all lists of the pass, plus two. It is greater than the work at any single node, which is the
-- number of the node's instructions, plus one.
abbrev pub node_cost : Setting → ℕ
node_cost c = suc (suc (all_of c.code c.read))

-- The work reserved for the child that the innermost node enters next, if the child's record was read already; otherwise 0.
abbrev pub reserved_work : Setting → Option OpenNode → ℕ
reserved_work c None = 0
reserved_work c (Some x) = if goes_next (rest_of c x) then node_cost c else 0

-- The measure: `node_cost` for each record that may still be read, plus the work that remains at the open nodes, plus the work
-- reserved for a child.
abbrev pub measure : Setting → Machine → Option OpenNode → ℕ
measure c m next =
    node_cost c * (max_nodes - m.back.progress.records)
    + (remaining_work c (stack_of next m.waiting.nodes) + reserved_work c next)
