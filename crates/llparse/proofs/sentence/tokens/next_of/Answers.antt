use Rattle.llparse.proofs.Common.{sym, ap, token_of, ahead_of}
use Rattle.llparse.proofs.answers.Nexts.{next_is, no_next}
use Rattle.llparse.proofs.sentence.tokens.next_of.Goals as goal

pub returns-in-Some : goal.returns-in-Some
returns-in-Some c =
    sym (ap ahead_of (next_is c.args.tokens.now.list c.args.tokens.now.taken (token_of c.in-Some.token) (sym c.in-Some.ensures)))

pub returns-in-None : goal.returns-in-None
returns-in-None c = sym (ap ahead_of (no_next c.args.tokens.now.list c.args.tokens.now.taken (sym c.in-None.ensures)))
