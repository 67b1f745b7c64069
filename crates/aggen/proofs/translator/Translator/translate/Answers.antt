use Rattle.aggen.proofs.Common.{LeavesSomeFile}
use Rattle.aggen.proofs.Composed.{begins, last_files, root_refused, translates}
use Rattle.aggen.proofs.Begun.{some}
use Rattle.aggen.proofs.Exits.{at_exit, still}
use Rattle.aggen.proofs.Left.{no_parse_of_text, none_after_files}
use Rattle.aggen.proofs.translator.Translator.translate.Goals as goal

-- the result for the last file is true of the tree of the sentence
pub returns-in_err-text-clause-refused : goal.returns-in_err-text-clause-refused
returns-in_err-text-clause-refused g c =
    at_exit _ _ _ c.from_residual-in_err-text.ensures
    (root_refused c.last_text.ensures.devices c.in_ok-report.ensures.left _ _ c.in_err-text.field-0.0 c.in_err-text.ensures.root)

pub returns-in_err-write_text-clause-refused : goal.returns-in_err-write_text-clause-refused
returns-in_err-write_text-clause-refused g c =
    at_exit _ _ _ c.from_residual-in_err-write_text.ensures
    (begins c.last_text.ensures.devices c.in_ok-report.ensures.left c.in_ok-text.text c.in_ok-text.ensures.root
    (rw c.as_str.ensures at c.in_err-write_text.ensures.err))

-- the translation theorem
pub returns-clause-translates : goal.returns-clause-translates
returns-clause-translates g c =
    let kept = c.last_text.ensures in
    translates kept.devices c.in_ok-report.ensures.left c.in_ok-text.text c.plan-plan.ensures kept.a_content kept.b_content
    c.in_ok-text.ensures.root (rw c.as_str.ensures at c.in_ok-write_text.ensures.ok)

-- a prefix of the text that was read was written
pub returns-in_err-write_text-clause-begins : goal.returns-in_err-write_text-clause-begins
returns-in_err-write_text-clause-begins g c =
    λ write. some _ _ c.in_ok-text.text _ c.in_ok-text.ensures.well c.as_str.ensures c.in_err-write_text.ensures.err

-- ---- the contents of the devices

pub returns-in_err-text-clause-a_left : goal.returns-in_err-text-clause-a_left
returns-in_err-text-clause-a_left g c =
    still (LeavesSomeFile _) c.last_text.ensures.devices.first c.last_text.ensures.a_content c.leave_files.ensures.a_left

pub returns-in_err-text-clause-b_left : goal.returns-in_err-text-clause-b_left
returns-in_err-text-clause-b_left g c =
    still (LeavesSomeFile _) c.last_text.ensures.devices.second c.last_text.ensures.b_content c.leave_files.ensures.b_left

pub returns-in_err-write_text-clause-a_left : goal.returns-in_err-write_text-clause-a_left
returns-in_err-write_text-clause-a_left g c =
    still (LeavesSomeFile _) c.last_text.ensures.devices.first c.last_text.ensures.a_content c.leave_files.ensures.a_left

pub returns-in_err-write_text-clause-b_left : goal.returns-in_err-write_text-clause-b_left
returns-in_err-write_text-clause-b_left g c =
    still (LeavesSomeFile _) c.last_text.ensures.devices.second c.last_text.ensures.b_content c.leave_files.ensures.b_left

pub returns-clause-a_left : goal.returns-clause-a_left
returns-clause-a_left g c =
    still (LeavesSomeFile _) c.last_text.ensures.devices.first c.last_text.ensures.a_content c.leave_files.ensures.a_left

pub returns-clause-b_left : goal.returns-clause-b_left
returns-clause-b_left g c =
    still (LeavesSomeFile _) c.last_text.ensures.devices.second c.last_text.ensures.b_content c.leave_files.ensures.b_left

pub returns-in_err-report-clause-parsed : goal.returns-in_err-report-clause-parsed
returns-in_err-report-clause-parsed g c = at_exit _ _ _ c.from_residual.ensures c.in_err-report.ensures.parsed

pub returns-in_err-text-clause-parsed : goal.returns-in_err-text-clause-parsed
returns-in_err-text-clause-parsed g c =
    at_exit _ _ _ c.from_residual-in_err-text.ensures (λ is. absurd (no_parse_of_text c.in_err-text.field-0.0 is))

pub returns-in_err-write_text-clause-parsed : goal.returns-in_err-write_text-clause-parsed
returns-in_err-write_text-clause-parsed g c = at_exit _ _ _ c.from_residual-in_err-write_text.ensures (λ is. absurd is)

pub returns-in_err-report-clause-files : goal.returns-in_err-report-clause-files
returns-in_err-report-clause-files g c =
    at_exit _ _ _ c.from_residual.ensures
    (λ is. absurd (none_after_files _ _ _ _ c.in_err-report.field-0.0 c.in_err-report.ensures.refused is))

pub returns-in_err-text-clause-files : goal.returns-in_err-text-clause-files
returns-in_err-text-clause-files g c =
    let kept = c.last_text.ensures in
    at_exit _ _ _ c.from_residual-in_err-text.ensures
    (λ is. last_files kept.devices c.in_ok-report.ensures.left c.plan-plan.ensures kept.a_content kept.b_content)

pub returns-in_err-write_text-clause-files : goal.returns-in_err-write_text-clause-files
returns-in_err-write_text-clause-files g c =
    let kept = c.last_text.ensures in
    at_exit _ _ _ c.from_residual-in_err-write_text.ensures
    (λ is. last_files kept.devices c.in_ok-report.ensures.left c.plan-plan.ensures kept.a_content kept.b_content)
