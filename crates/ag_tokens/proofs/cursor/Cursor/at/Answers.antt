use Rattle.std.proofs.Common.{arith, chars, drop}
use Rattle.ag_tokens.proofs.States.{fits, left_from, ready}
use Rattle.ag_tokens.proofs.cursor.Cursor.at.Goals as goal

pub invariant_of-result : goal.invariant_of-result
invariant_of-result c =
    ready (chars (drop c.args.from c.args.text.now)) (omega (arith, fits c.args.text.now c.args.from c.utf8.text c.requires))
    (rw c.split_at.ensures.back at c.skip_separators-rest.ensures) c.skip_separators-rest.utf8 c.leading_token.ensures

pub returns : goal.returns
returns c =
    left_from c.args.text.now c.skip_separators-rest.result.now c.args.from c.utf8.text c.requires
    (rw c.split_at.ensures.back at c.skip_separators-rest.ensures)
