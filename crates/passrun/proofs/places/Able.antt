-- A pass of a plan can run.
use Rattle.planchecker.proofs.Sounding.{plans_are_sound}
use Rattle.passrun.specs.Laws.{PlansCanRun}

pub plans_can_run : PlansCanRun
plans_can_run context passes accepted plan greatest one most layout = record {
  sound =
      plans_are_sound context.setting.grammar.now context.setting.plan.now passes
      context.setting.pass accepted plan greatest one most;
  layout = layout;
}
