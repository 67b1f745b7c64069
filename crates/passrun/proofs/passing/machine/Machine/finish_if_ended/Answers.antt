use Rattle.passrun.proofs.passing.machine.Machine.finish_if_ended.Goals as goal

pub skip_put-requires-clause-runs : goal.skip_put-requires-clause-runs
skip_put-requires-clause-runs g c = (_, rw c.in-Some.is at (c.in_ok-outer.ensures.runs c.requires.runs.0 c.requires.runs.1))
