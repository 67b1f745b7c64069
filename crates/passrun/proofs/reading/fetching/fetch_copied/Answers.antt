use Rattle.passrun.proofs.Common.{option_map, List, Bor, ℕ, err_from_is_err_and, setting}
use Rattle.passrun.proofs.course.Ahead.{frame_unfetched}
use Rattle.passrun.proofs.reading.fetching.fetch_copied.Goals as goal

pub returns-in_err-body-clause-refused : goal.returns-in_err-body-clause-refused
returns-in_err-body-clause-refused g c =
    let p = err_from_is_err_and c.from_residual.result c.from_residual.ensures.1 in
    rw (p.1, p.2)
    (λ honest. frame_unfetched (setting c.args.context.now) c.args.expected.item c.args.expected.open_count
    (g.D.Device.content c.args.from.now) c.args.back.now
    (option_map (λ (body : Bor (List ℕ)). body.now)) c.in_err-body.field-0.0 c.requires.deep c.requires.few
    (rw c.requires.version at (c.in_err-body.ensures.exact c.requires.unbroken honest)))
