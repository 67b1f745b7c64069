use Rattle.passrun.proofs.Common
use Common.{IfOk-weaker, setting_of, IsLayout, layouts}
use Rattle.passrun.proofs.places.Able.{plans_can_run}
use Rattle.passrun.proofs.RecordedPasses.{passes_are_recorded}
use Rattle.passrun.proofs.passing.pass.run_pass.Goals as goal

pub run_in_context-requires-clause-context : goal.run_in_context-requires-clause-context
run_in_context-requires-clause-context g c =
    let s = setting_of c.args.grammar.now c.args.plan.now c.args.pass in
    let table : IsLayout s c.as_slice.result.now =
    rw (c.as_slice.ensures, c.in_ok-layout.ensures.layouts) (layouts s) in
    plans_can_run _ c.requires.last.0 c.build_layout.ensures.accepted c.requires.plan c.requires.last.1 c.requires.first
    c.requires.last.2 table

pub returns-clause-exact : goal.returns-clause-exact
returns-clause-exact g c = λ honest to_honest.
    IfOk-weaker c.run_in_context.result _ _ (λ p passed.
    passes_are_recorded c.args.grammar.now c.args.plan.now c.args.pass _ _ _ _ c.build_layout.ensures.accepted
    c.requires.plan.legal c.requires.first passed)
    (c.run_in_context.ensures.passed honest to_honest)
