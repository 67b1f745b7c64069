use Rattle.std.proofs.Common.{refl}
use Rattle.ag_tokens.proofs.Lexed.{width-chars}
use Rattle.ag_scan.proofs.cutting.is_shorter.Goals as goal

pub returns : goal.returns
returns c = rw (width-chars c.args.text.now c.utf8.text, width-chars c.args.other.now c.utf8.other) refl
