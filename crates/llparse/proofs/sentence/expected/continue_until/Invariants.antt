use Rattle.llparse.proofs.Common.{left_of}
use Rattle.llparse.proofs.sentence.expected.continue_until.Given as goal

abbrev pub decreases-loop-terminal : goal.decreases-loop-terminal
decreases-loop-terminal l = left_of l.language.grammar.now l.node l.parser
