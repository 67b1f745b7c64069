use Rattle.std.proofs.Common.{◌∙◌, ℕ, Err, ap, length, subst}
use Rattle.std.proofs.lemmas.Result.{err_from_is_err_and}
use Rattle.std.specs.Global.{Vec}
use Rattle.ag_value.specs.declared.value.Value.{Value}
use Rattle.roottext.specs.Roots.{IsRootRecord}
use Rattle.roottext.proofs.Roots.{body_refused, no_root_at_end}
use Rattle.roottext.proofs.root.last_value.Goals as goal

pub returns-in_err-body-clause-found : goal.returns-in_err-body-clause-found
returns-in_err-body-clause-found g c = λ honest.
    let p = err_from_is_err_and c.from_residual.result c.from_residual.ensures.1 in
    rw (p.1, p.2)
    (body_refused c.args.grammar.now c.args.plan.now.assignment (g.D.Device.content c.args.device.now)
    (λ (body : Vec ℕ). body.items) c.in_err-body.field-0.0 (c.in_err-body.ensures.exact honest))

pub returns-in-Err-Damaged-clause-found : goal.returns-in-Err-Damaged-clause-found
returns-in-Err-Damaged-clause-found g c = λ honest.
    let assignment = c.args.plan.now.assignment in
    let nothing =
    subst (λ body. (x : Value) → IsRootRecord c.args.grammar.now assignment body x → ⊥) c.as_slice.ensures.value
    (c.in-Err-Damaged.ensures.none (ap Err c.in-Err-Damaged.field-0-is)) in
    no_root_at_end c.args.grammar.now assignment
    (g.D.Device.content c.args.device.now) c.in_ok-body.body.items c.in_ok-end-in-Err-Damaged.end
    (c.in_ok-end-in-Err-Damaged.ensures.length honest
    ∙ ap length (c.in_ok-body.ensures.content (c.in_ok-end-in-Err-Damaged.ensures.persists.honest honest)))
    (c.in_ok-body.ensures.exact (c.in_ok-end-in-Err-Damaged.ensures.persists.honest honest)) nothing
