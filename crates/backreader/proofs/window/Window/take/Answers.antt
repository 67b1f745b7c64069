use Rattle.backreader.proofs.Common.{◌+◌}
use Rattle.backreader.proofs.EndingAt.{body_occurs, taken_occurs}
use Rattle.backreader.proofs.window.Window.take.Goals as goal

pub returns-clause-body : goal.returns-clause-body
returns-clause-body c content s = body_occurs content c.args.self.now s c.args.length c.requires

pub returns-clause-occur : goal.returns-clause-occur
returns-clause-occur c content s = taken_occurs content c.args.self.now s (c.args.length + 4) c.requires
