-- The *pending list* at the open nodes (`Pending` of treefile: the children whose records are still to be read, with their
-- levels), and the meaning of the faults of a pass. c is a setting and q a production. All definitions are this project's.
use Rattle.std.specs.Prelude.{ℕ, suc, Bool, true, false, List, [], ◌∷◌, Option, Some, None, slice_get}
use Rattle.ag_grammar.specs.declared.grammar.Production.{Production}
use Rattle.ag_grammar.specs.grammars.AttributeGrammar.{stored_items}
use Rattle.treefile.specs.framing.ExpectedRecords.{Child, Pending, before_others, children_with_copies, remaining_of}
use Rattle.passcode.specs.declared.instr.Instr.{Instr}
use Rattle.passcode.specs.declared.instr.Instr.TheVariants as instr
use Rattle.passcode.specs.declared.phase.Phase.{Phase}
use Rattle.passcode.specs.declared.phase.Phase.TheVariants.{Between, Got, Gone, Ended}
use Rattle.passcode.specs.Settings.{Setting, pass_direction}
use Rattle.pass_rows.specs.declared.run_fault.RunFault.{RunFault}
use Rattle.pass_rows.specs.declared.run_fault.RunFault.TheVariants as fault
use Rattle.passrun.specs.Damage.{HasTooManyNodes, IsDamaged, IsTooDeep, source}
use Rattle.pass_rows.specs.Places.{Table, copies, in_children}

-- The first of these instructions that does not run a rule is `Go`. Then a child's record was read, and the child
-- was not entered yet.
abbrev pub goes_next : List Instr → Bool
goes_next [] = false
goes_next (instr.Get j ∷ xs) = false
goes_next (instr.Set j a r ∷ xs) = goes_next xs
goes_next (instr.Go j ∷ xs) = true
goes_next (instr.Put j ∷ xs) = false
goes_next (instr.Def a r ∷ xs) = goes_next xs
goes_next (instr.End ∷ xs) = false

-- The children of a node of production q, each with the copies of its values that the node's record has. The copies are taken
-- from the table e, which has the values at the node and its children.
abbrev pub children_of : Setting → Production → Table → List Child
children_of c q e =
    children_with_copies true c.grammar c.passes c.read (stored_items q.items)
    (copies c c.read (stored_items q.items) (in_children e))

-- The children of a node as a pending list, without the first n that the pass visits, and then the list `others`. `level` is the
-- level of these children.
abbrev pub following : Setting → Production → Table → (n level : ℕ) → Pending → Pending
following c q e n level others =
    before_others (pass_direction c) level (remaining_of (pass_direction c) (children_of c q e) n) others

-- All children of the node whose record was read last as a pending list, and then the list `others`. A token (None) has no
-- children.
abbrev pub pending_of_child : Setting → Option Production → Table → (level : ℕ) → Pending → Pending
pending_of_child c None e level others = others
pending_of_child c (Some q) e level others = following c q e 0 level others

-- The pending list at an open node in a phase (`Phase` of passcode): the children of the child whose record was read last (in
-- phase Got), then the node's own that were not read, then the others. i is the number of visited children, and `child` the
-- number in the record that was read last. The tables e and `of_child` have the values at the node and at that child, and `level`
-- is the level of the node's children.
abbrev pub pending : Setting → Production → Phase → (i child : ℕ) → Table → Table → (level : ℕ) → Pending → Pending
pending c q Between i child e of_child level others = following c q e i level others
pending c q Got i child e of_child level others =
    pending_of_child c (slice_get c.grammar.productions child) of_child (suc level) (following c q e (suc i) level others)
pending c q Gone i child e of_child level others = following c q e (suc i) level others
pending c q Ended i child e of_child level others = others

-- R1: the content is the file of no tree, and the damage shows at the offset. P2: it is the file of no tree
-- within the limit of levels, and reading exceeds that limit before it meets any damage. P3: the same for the
-- limit of nodes. D1 and NoMemory say nothing about the content.
abbrev pub IsRunFault : Setting → List ℕ → RunFault → Type 0
IsRunFault c content (fault.Damaged at) = IsDamaged (source c) content at
IsRunFault c content fault.TooDeep = IsTooDeep (source c) content
IsRunFault c content fault.TooManyNodes = HasTooManyNodes (source c) content
IsRunFault c content fault.Device = Unit {0}
IsRunFault c content fault.NoMemory = Unit {0}

-- A fault of a resource (the device or memory), which says nothing about what is read.
abbrev pub IsResourceFault : RunFault → Type 0
IsResourceFault (fault.Damaged at) = ⊥
IsResourceFault fault.TooDeep = ⊥
IsResourceFault fault.TooManyNodes = ⊥
IsResourceFault fault.Device = Unit {0}
IsResourceFault fault.NoMemory = Unit {0}
