use Rattle.passrun.proofs.Common
use Common.{refl, inl, inr, Err, Some, IfOk-weaker, err_from_is_err_and, none_added, Runs, between, setting}
use Common.instr
use Rattle.passrun.proofs.passing.machine.Machine.step.Goals as goal
use Rattle.passrun.proofs.passing.machine.Machine.step.Goals.{in-Set+in_ok-ended-in-Set, in-End}

pub run_rule-requires-clause-next : goal.run_rule-requires-clause-next
run_rule-requires-clause-next g c =
    let there = c.instruction.ensures.there in
    elim c.in-Set.is [
      | inl set ↦ (set.0, set.1, instr.Set set.0 set.1 c.in-Set.rule, inl refl, cc)
      | inr def ↦ (0, def.0, instr.Def def.0 c.in-Set.rule, inr (refl, refl), cc)
    ]

pub run_rule-requires-clause-runs : goal.run_rule-requires-clause-runs
run_rule-requires-clause-runs g c = (_, c.requires.runs)

pub enter_if_next-requires-clause-runs : goal.enter_if_next-requires-clause-runs
enter_if_next-requires-clause-runs g c = (_, c.in_ok-after_step-in-Get.ensures.runs _ c.requires.runs)

pub returns-in-Get-clause-runs : goal.returns-in-Get-clause-runs
returns-in-Get-clause-runs g c =
    c.in_ok-enter_if_next-in-Get.ensures.runs _ (c.in_ok-after_step-in-Get.ensures.runs _ c.requires.runs)

pub returns-in-Put-clause-runs : goal.returns-in-Put-clause-runs
returns-in-Put-clause-runs g c = c.in_ok-put-in-Put.ensures.runs _ c.requires.runs

pub finish_if_ended-requires-clause-runs : goal.finish_if_ended-requires-clause-runs
finish_if_ended-requires-clause-runs g c =
    elim c.match-instruction.branch [
      | in-Set+in_ok-ended-in-Set w ↦ rw (w.self-is, w.ended-is)
          (_, w.in_ok-ended-in-Set.ensures.runs _ c.requires.runs)
      | in-End w ↦ rw (w.self-is, w.ended-is) (_, c.requires.runs)
    ]

pub returns-clause-runs : goal.returns-clause-runs
returns-clause-runs g c =
    let r : Runs (setting c.args.at.now.context.now)
    (between (g.D.Device.is_honest c.args.from.now) (g.D.Device.content c.args.from.now) (g.E.Device.is_honest c.args.to.now)
    (g.E.Device.content c.args.to.now) c.match-instruction.meter) c.match-instruction.self (Some c.match-instruction.ended) =
    elim c.match-instruction.branch [
      | in-Set+in_ok-ended-in-Set w ↦ rw (w.self-is, w.meter-is, w.ended-is)
          (w.in_ok-ended-in-Set.ensures.runs _ c.requires.runs)
      | in-End w ↦ rw (w.self-is, w.meter-is, w.ended-is) c.requires.runs
    ] in
    IfOk-weaker c.finish_if_ended.result _ _ (λ next leads. leads _ r) c.finish_if_ended.ensures.runs

pub returns-in_err-after_step-in-Get-clause-left : goal.returns-in_err-after_step-in-Get-clause-left
returns-in_err-after_step-in-Get-clause-left g c =
    let p = err_from_is_err_and c.from_residual.result c.from_residual.ensures.1 in
    rw p.1 (λ h. none_added _ _ (Err p.0))

pub returns-in_err-enter_if_next-in-Get-clause-left : goal.returns-in_err-enter_if_next-in-Get-clause-left
returns-in_err-enter_if_next-in-Get-clause-left g c =
    let p =
    err_from_is_err_and c.from_residual-in_err-enter_if_next-in-Get.result
    c.from_residual-in_err-enter_if_next-in-Get.ensures.1 in
    rw p.1 (λ h. none_added _ _ (Err p.0))

pub returns-in_err-ended-in-Set-clause-left : goal.returns-in_err-ended-in-Set-clause-left
returns-in_err-ended-in-Set-clause-left g c =
    let p = err_from_is_err_and c.from_residual-in_err-ended-in-Set.result c.from_residual-in_err-ended-in-Set.ensures.1 in
    rw p.1 (λ h. none_added _ _ (Err p.0))

pub returns-in_err-enter_child-in-Go-clause-left : goal.returns-in_err-enter_child-in-Go-clause-left
returns-in_err-enter_child-in-Go-clause-left g c =
    let p =
    err_from_is_err_and c.from_residual-in_err-enter_child-in-Go.result c.from_residual-in_err-enter_child-in-Go.ensures.1 in
    rw p.1 (λ h. none_added _ _ (Err p.0))
