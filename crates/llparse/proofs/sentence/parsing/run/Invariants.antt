use Rattle.llparse.proofs.Common
use Common.{◌≡◌, ◌+◌, Bool, true, false, length, Ok, AddsFrames, Persists, WhenHonest, task_of, left_of, IsBetween, ParseFault}
use Rattle.llparse.proofs.sentence.parsing.run.Given as goal

abbrev pub invariant-loop-terminal : goal.invariant-loop-terminal
invariant-loop-terminal g l = record {
  occurs : (honest : Bool) → (honest ≡ true → g.D.Device.is_honest l.device ≡ true)
      → IsBetween (task_of l.language.grammar.now l.fn.sentence honest (g.D.Device.content l.initial.device)) l.node l.parser
      (g.D.Device.content l.device);
  written : l.writer.written + length l.parser.waiting.items + 1 ≡ l.parser.count;
  list : l.parser.tokens.list ≡ l.fn.sentence;
  fine : l.writer.is_broken ≡ false;
  frames : WhenHonest (g.D.Device.is_honest l.device)
      (AddsFrames {E = ParseFault} (g.D.Device.content l.initial.device) (g.D.Device.content l.device) (Ok tt));
  persists : Persists (g.D.Device.is_honest l.initial.device) (g.D.Device.is_honest l.device)
      (g.D.Device.failures l.initial.device) (g.D.Device.failures l.device) ⊥;
}

abbrev pub decreases-loop-terminal : goal.decreases-loop-terminal
decreases-loop-terminal g l = left_of l.language.grammar.now l.node l.parser
