use Rattle.passrun.proofs.Common.{RootPath, ap}
use Rattle.passrun.proofs.steps.MachineSteps.{entered, is_passing}
use Rattle.passrun.proofs.course.Working.{entered_less}
use Rattle.passrun.proofs.passing.machine.Machine.enter_child.Goals as goal

pub open_child-requires-clause-passing : goal.open_child-requires-clause-passing
open_child-requires-clause-passing c = is_passing c.as_slice-values.ensures.value c.requires.runs.1

pub returns-clause-runs : goal.returns-clause-runs
returns-clause-runs c =
    entered (ap (λ (s : RootPath). s.root) c.in_ok-child.ensures.pushed) c.as_slice-values.ensures.value
    c.in_ok-child.ensures.goes

pub returns-clause-less : goal.returns-clause-less
returns-clause-less c =
    entered_less c.requires.context.sound c.open_child.new.waiting c.in_ok-child.child
    c.requires.runs.1 c.requires.next c.in_ok-child.ensures.child.0 c.in_ok-child.ensures.child.1
    (ap (λ (s : RootPath). s.nodes) c.in_ok-child.ensures.pushed)
