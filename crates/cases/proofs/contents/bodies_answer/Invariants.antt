use Rattle.backreader.specs.BackState.{IsOver}
use Rattle.treefile.specs.devices.Device.{WhenHonest}
use Rattle.cases.proofs.contents.bodies_answer.Given as goal

abbrev pub invariant-loop-turn : goal.invariant-loop-turn
invariant-loop-turn g l = WhenHonest (g.D.Device.is_honest l.device) (IsOver (g.D.Device.content l.device) l.back)
