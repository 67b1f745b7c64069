use Rattle.llparse.proofs.Common.{◌≡◌, ◌<◌, ◌≤◌, length, arith, ap, get_or, Contains, IsFollowSeed, is_marked}
use Rattle.llparse.proofs.look_ahead.Edges.{adds_more, contains_none, noted_iff}
use Rattle.llparse.proofs.table.follow.follow_seeds.Goals as goal

pub loop-at-preserved : goal.loop-at-preserved
loop-at-preserved c =
    let r = c.index-productions-at.result in
    let inside : c.loop-at.at < length c.args.grammar.now.productions =
    omega (arith, ap length c.productions-productions.ensures.lent, c.loop-at-test.true) in
    let is : r ≡ get_or c.args.grammar.now.productions c.loop-at.at r =
    cc (c.index-productions-at.is, c.productions-productions.ensures.lent) in
    adds_more (IsFollowSeed c.args.grammar.now (is_marked c.args.nullable.now) (is_marked c.args.in_first.now))
    c.args.grammar.now.productions c.loop-at.at r _ _ _ inside c.loop-at.invariant
    (rw (c.of-sizes.ensures.symbols, c.of-sizes.ensures.literals, c.as_slice.ensures, is) at c.in_ok-add_seeds.ensures)

pub returns : goal.returns
returns c =
    let most : length c.args.grammar.now.productions ≤ c.loop-at.at =
    omega (arith, ap length c.productions-productions.ensures.lent, c.loop-at-test.false) in
    noted_iff (IsFollowSeed c.args.grammar.now (is_marked c.args.nullable.now) (is_marked c.args.in_first.now))
    c.args.grammar.now.productions c.loop-at.at (Contains c.new-seeds.result.items) _ most
    (λ t h. contains_none t (rw c.new-seeds.ensures.items at h)) c.loop-at.invariant
