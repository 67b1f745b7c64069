use Rattle.std.proofs.lemmas.Result.{MatchResult-weaker}
use Rattle.aggen.proofs.Exits.{at_exit}
use Rattle.aggen.proofs.Reading.{last_of, offset_exact, resource_exact}
use Rattle.aggen.proofs.values.value_file.read_file.Goals as goal

pub returns-in_err-body-clause-read : goal.returns-in_err-body-clause-read
returns-in_err-body-clause-read g c = λ honest value well is.
    at_exit _ _ _ c.from_residual.ensures
    (resource_exact _ _ c.in_err-body.field-0.0 (last_of well is) (c.in_err-body.ensures.exact honest))

pub returns-clause-read : goal.returns-clause-read
returns-clause-read g c = λ honest value well is.
    let last = last_of well is in
    let found = c.in_ok-body.ensures.exact (c.in_ok-end.ensures.persists.honest honest) in
    MatchResult-weaker c.value_in.result (c.value_in.ensures.read value well (cc (last, found, c.as_slice.ensures.value)))
    (λ value same. same) (λ e memory. rw memory tt)

pub returns-in_err-body-clause-offset : goal.returns-in_err-body-clause-offset
returns-in_err-body-clause-offset g c = λ honest at is.
    offset_exact _ c.in_err-body.field-0.0 at (c.in_err-body.ensures.exact honest) (rw is at c.from_residual.ensures.1)
