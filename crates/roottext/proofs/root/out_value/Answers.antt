use Rattle.std.proofs.lemmas.Result.{err_from_is_err_and}
use Rattle.roottext.proofs.Roots.{same_fault}
use Rattle.roottext.proofs.root.out_value.Goals as goal

pub returns-in_err-carried-clause-none : goal.returns-in_err-carried-clause-none
returns-in_err-carried-clause-none c =
    let p = err_from_is_err_and c.from_residual.result c.from_residual.ensures.1 in
    rw (p.1, p.2)
    (λ damaged. c.in_err-carried.ensures.none (same_fault _ _ damaged))
