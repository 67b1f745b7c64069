-- The remaining goals of `edges_of`.
use Rattle.llparse.proofs.Common.{◌≡◌, ◌<◌, ◌≤◌, length, arith, ap, get_or, Contains, is_marked, IsFollowEdge, IsFirstEdge}
use Rattle.llparse.proofs.look_ahead.Edges.{adds_more, contains_none, noted_iff}
use Rattle.llparse.proofs.table.predict.edges_of.Goals as goal

pub loop-at-preserved : goal.loop-at-preserved
loop-at-preserved c =
    let g = c.args.grammar.now in
    let n = is_marked c.args.nullable.now in
    let r = c.index-productions-at.result in
    let inside : c.loop-at.at < length g.productions =
    omega (arith, ap length c.productions-productions.ensures.lent, c.loop-at-test.true) in
    let is : r ≡ get_or g.productions c.loop-at.at r = cc (c.index-productions-at.is, c.productions-productions.ensures.lent) in
    let sizes = c.of-sizes.ensures in
    record {
      first =
          adds_more (IsFirstEdge g n) g.productions c.loop-at.at r _ _ _ inside c.loop-at.invariant.first
          (rw (sizes.symbols, sizes.literals, c.starting_items_len-count.ensures.items, c.as_slice-items.ensures, is) at
          c.in_ok-add_first_edges.ensures);
      follow =
          adds_more (IsFollowEdge g n) g.productions c.loop-at.at r _ _ _ inside c.loop-at.invariant.follow
          (rw (sizes.symbols, sizes.literals, c.as_slice-items.ensures, is) at c.in_ok-add_follow_edges.ensures);
    }

pub returns-clause-first : goal.returns-clause-first
returns-clause-first c =
    let most : length c.args.grammar.now.productions ≤ c.loop-at.at =
    omega (arith, ap length c.productions-productions.ensures.lent, c.loop-at-test.false) in
    noted_iff (IsFirstEdge c.args.grammar.now (is_marked c.args.nullable.now)) c.args.grammar.now.productions c.loop-at.at
    (Contains c.new-first.result.items) _ most
    (λ e h. contains_none e (rw c.new-first.ensures.items at h)) c.loop-at.invariant.first

pub returns-clause-follow : goal.returns-clause-follow
returns-clause-follow c =
    let most : length c.args.grammar.now.productions ≤ c.loop-at.at =
    omega (arith, ap length c.productions-productions.ensures.lent, c.loop-at-test.false) in
    noted_iff (IsFollowEdge c.args.grammar.now (is_marked c.args.nullable.now)) c.args.grammar.now.productions c.loop-at.at
    (Contains c.new-follow.result.items) _ most
    (λ e h. contains_none e (rw c.new-follow.ensures.items at h)) c.loop-at.invariant.follow
