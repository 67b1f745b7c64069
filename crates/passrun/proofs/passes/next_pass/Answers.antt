use Rattle.passrun.proofs.Common.{IfOk-weaker, inl}
use Rattle.std.proofs.lemmas.Result.{IfErr-weaker, on_err_weaker}
use Rattle.passrun.proofs.course.Stepping.{some_left}
use Rattle.passrun.proofs.passes.next_pass.Goals as goal

pub returns-in-A-clause-passed : goal.returns-in-A-clause-passed
returns-in-A-clause-passed g c = λ ha hb.
    IfOk-weaker c.run_pass.result _ _
    (λ p passed. rw c.in-A.is (record { passed = passed; kept = c.run_pass.ensures.content ha }))
    (c.run_pass.ensures.passed ha hb)

pub returns-in-A-clause-refused : goal.returns-in-A-clause-refused
returns-in-A-clause-refused g c =
    IfErr-weaker c.run_pass.result _ _ (λ f refused ha hb. rw c.in-A.is (refused ha)) c.run_pass.ensures.refused

pub returns-in-B-clause-passed : goal.returns-in-B-clause-passed
returns-in-B-clause-passed g c = λ ha hb.
    IfOk-weaker c.run_pass-in-B.result _ _
    (λ p passed. rw c.in-B.is (record { passed = passed; kept = c.run_pass-in-B.ensures.content hb }))
    (c.run_pass-in-B.ensures.passed hb ha)

pub returns-in-B-clause-refused : goal.returns-in-B-clause-refused
returns-in-B-clause-refused g c =
    IfErr-weaker c.run_pass-in-B.result _ _ (λ f refused ha hb. rw c.in-B.is (refused hb)) c.run_pass-in-B.ensures.refused

pub returns-in-A-clause-kept : goal.returns-in-A-clause-kept
returns-in-A-clause-kept g c = λ ha hb.
    rw c.in-A.is (c.run_pass.ensures.content ha)

pub returns-in-A-clause-left : goal.returns-in-A-clause-left
returns-in-A-clause-left g c =
    on_err_weaker c.run_pass.result (λ left ha hb. rw c.in-A.is (left hb)) c.run_pass.ensures.left

pub returns-in-B-clause-kept : goal.returns-in-B-clause-kept
returns-in-B-clause-kept g c = λ ha hb.
    rw c.in-B.is (c.run_pass-in-B.ensures.content hb)

pub returns-in-B-clause-left : goal.returns-in-B-clause-left
returns-in-B-clause-left g c =
    on_err_weaker c.run_pass-in-B.result (λ left ha hb. rw c.in-B.is (left ha)) c.run_pass-in-B.ensures.left

-- The content of each honest device, for any other device.
pub returns-in-A-clause-a_left : goal.returns-in-A-clause-a_left
returns-in-A-clause-a_left g c = λ h. (c.args.next.now.setting.pass, inl (c.run_pass.ensures.content h))

pub returns-in-A-clause-b_left : goal.returns-in-A-clause-b_left
returns-in-A-clause-b_left g c =
    some_left _ _ _ c.run_pass.result c.run_pass.ensures.begins c.run_pass.ensures.left

pub returns-in-B-clause-a_left : goal.returns-in-B-clause-a_left
returns-in-B-clause-a_left g c =
    some_left _ _ _ c.run_pass-in-B.result c.run_pass-in-B.ensures.begins c.run_pass-in-B.ensures.left

pub returns-in-B-clause-b_left : goal.returns-in-B-clause-b_left
returns-in-B-clause-b_left g c = λ h. (c.args.next.now.setting.pass, inl (c.run_pass-in-B.ensures.content h))
