use Rattle.std.proofs.Common.{sym, arith}
use Rattle.ag_scan.specs.TokenReader.{token_of}
use Rattle.llparse.proofs.answers.Nexts.{is_left}
use Rattle.cases.proofs.sentences.shown.Goals as goal

pub advance-requires : goal.advance-requires
advance-requires c = is_left c.loop-token.tokens.list c.loop-token.tokens.taken (token_of c.in-Some.token) (sym c.in-Some.ensures)

pub loop-token-smaller : goal.loop-token-smaller
loop-token-smaller c =
    let left = is_left c.loop-token.tokens.list c.loop-token.tokens.taken (token_of c.in-Some.token) (sym c.in-Some.ensures) in
    rw c.advance.ensures (omega (arith, left))
