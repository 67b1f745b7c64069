use Rattle.planchecker.proofs.Common.{arith}
use Rattle.planchecker.proofs.Marked.{mark_more}
use Rattle.planchecker.proofs.marks.Marks.mark.Goals as goal

pub returns-clause-marked : goal.returns-clause-marked
returns-clause-marked c =
    let s = c.requires.symbol in
    let a = c.requires.attr in
    mark_more c.args.self.now.slots c.args.symbol c.args.attr s a (omega (arith, c.requires.full))
