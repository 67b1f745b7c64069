use Rattle.passassign.proofs.Common.{take}
use Rattle.passassign.specs.Searching.{AreBarred}
use Rattle.passassign.proofs.search.barred_dependencies.Given as goal

abbrev pub invariant-loop-one : goal.invariant-loop-one
invariant-loop-one l = AreBarred l.direction l.states (take l.one-index l.all) l.barred.items
