use Rattle.std.proofs.Common.{arith, chars}
use Rattle.std.proofs.lemmas.Str.{IsCharBoundary-start}
use Rattle.ag_tokens.proofs.Lexed.{width-chars}
use Rattle.ag_tokens.proofs.States.{left_from, ready}
use Rattle.ag_tokens.proofs.cursor.Cursor.new.Goals as goal

pub invariant_of-result : goal.invariant_of-result
invariant_of-result c =
    ready (chars c.args.text.now) (omega (arith, width-chars c.args.text.now c.utf8.text)) c.skip_separators-rest.ensures
    c.skip_separators-rest.utf8 c.leading_token.ensures

pub returns : goal.returns
returns c =
    left_from c.args.text.now c.skip_separators-rest.result.now 0 c.utf8.text (IsCharBoundary-start c.args.text.now c.utf8.text)
    c.skip_separators-rest.ensures
