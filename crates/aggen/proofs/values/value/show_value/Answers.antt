use Rattle.aggen.proofs.Common.{LeavesBeginning}
use Rattle.aggen.proofs.Closed.{no_value}
use Rattle.aggen.proofs.Exits.{at_error, at_exit, still}
use Rattle.aggen.proofs.values.value.show_value.Goals as goal

pub returns-in_err-value-clause-refused : goal.returns-in_err-value-clause-refused
returns-in_err-value-clause-refused g c = at_exit _ _ _ c.from_residual.ensures c.in_err-value.ensures.refused

pub returns-in_err-value-clause-occurs : goal.returns-in_err-value-clause-occurs
returns-in_err-value-clause-occurs g c = λ at occurs.
    at_error _ _ c.from_residual.ensures (c.in_err-value.ensures.occurs at occurs)

pub returns-in_err-write_file-clause-occurs : goal.returns-in_err-write_file-clause-occurs
returns-in_err-write_file-clause-occurs g c = λ at occurs. absurd (no_value occurs c.in_ok-value.ensures.value)

pub returns-in_err-value-2-clause-occurs : goal.returns-in_err-value-2-clause-occurs
returns-in_err-value-2-clause-occurs g c = λ at occurs. absurd (no_value occurs c.in_ok-value.ensures.value)

pub returns-in_err-write_text-clause-occurs : goal.returns-in_err-write_text-clause-occurs
returns-in_err-write_text-clause-occurs g c = λ at occurs. absurd (no_value occurs c.in_ok-value.ensures.value)

pub returns-clause-occurs : goal.returns-clause-occurs
returns-clause-occurs g c = λ at occurs. absurd (no_value occurs c.in_ok-value.ensures.value)

-- ---- the content of the device

pub returns-in_err-value-2-clause-left : goal.returns-in_err-value-2-clause-left
returns-in_err-value-2-clause-left g c =
    still (LeavesBeginning 0 _) c.read_file.ensures.persists c.read_file.ensures.content c.write_file.ensures.left

pub returns-in_err-line-clause-left : goal.returns-in_err-line-clause-left
returns-in_err-line-clause-left g c =
    still (LeavesBeginning 0 _) c.read_file.ensures.persists c.read_file.ensures.content c.write_file.ensures.left

pub returns-in_err-write_text-clause-left : goal.returns-in_err-write_text-clause-left
returns-in_err-write_text-clause-left g c =
    still (LeavesBeginning 0 _) c.read_file.ensures.persists c.read_file.ensures.content c.write_file.ensures.left

pub returns-clause-left : goal.returns-clause-left
returns-clause-left g c =
    still (LeavesBeginning 0 _) c.read_file.ensures.persists c.read_file.ensures.content c.write_file.ensures.left
