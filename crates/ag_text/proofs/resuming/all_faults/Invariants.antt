use Rattle.std.proofs.Common.{chars}
use Rattle.ag_tokens.proofs.Lexes.{one_input}
use Rattle.ag_text.specs.Resuming.{all_faults}
use Rattle.ag_text.proofs.Continued.{Found, tokens_left}
use Rattle.ag_text.proofs.resuming.all_faults.Given as goal

abbrev pub invariant-loop-next : goal.invariant-loop-next
invariant-loop-next l = Found l.text l.faults.items (all_faults (one_input (chars l.text)).0) l.next

abbrev pub decreases-loop-next : goal.decreases-loop-next
decreases-loop-next l = tokens_left l.text l.next
