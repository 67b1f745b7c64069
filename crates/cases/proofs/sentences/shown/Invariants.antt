use Rattle.std.proofs.Common.{◌-◌, length}
use Rattle.cases.proofs.sentences.shown.Given as goal

abbrev pub decreases-loop-token : goal.decreases-loop-token
decreases-loop-token l = length l.tokens.list - l.tokens.taken
