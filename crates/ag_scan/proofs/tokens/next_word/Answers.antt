use Rattle.std.proofs.Common.{None, Some, arith}
use Rattle.ag_scan.specs.Cutting.{leading_word_of}
use Rattle.ag_scan.proofs.Supplying.{prefix_exact, no_longer}
use Rattle.ag_scan.proofs.tokens.next_word.Goals as goal

pub overflow_sub-result : goal.overflow_sub-result
overflow_sub-result c =
    let left = c.skip_separators-left in
    omega (arith, c.requires.within, no_longer c.args.following.now left.result.now c.utf8.following left.utf8 left.ensures)

pub overflow_cast-result : goal.overflow_cast-result
overflow_cast-result c = omega (arith, c.requires.has.tokens.readable.short)

pub returns-in-Some-clause-next : goal.returns-in-Some-clause-next
returns-in-Some-clause-next c =
    let left = c.skip_separators-left in
    prefix_exact c.requires.has c.args.following.now left.result.now c.requires.within c.utf8.following left.utf8 left.ensures
    (Some (leading_word_of c.in-Some.next)) c.in-Some.ensures

pub returns-in-None-clause-next : goal.returns-in-None-clause-next
returns-in-None-clause-next c =
    let left = c.skip_separators-left in
    prefix_exact c.requires.has c.args.following.now left.result.now c.requires.within c.utf8.following left.utf8 left.ensures
    None c.in-None.ensures
