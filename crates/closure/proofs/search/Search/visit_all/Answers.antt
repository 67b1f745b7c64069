-- The remaining goals of `visit_all`.
use Rattle.std.proofs.Common.{◌≡◌, get_or, take_all, ◌∙◌}
use Rattle.closure.specs.Search.{Grows, IsSettled}
use Rattle.closure.proofs.Marks.{settled_more, grows_on}
use Rattle.closure.proofs.search.Search.visit_all.Goals as goal

pub loop-clause-preserved : goal.loop-clause-preserved
loop-clause-preserved c = record {
  clauses = c.in_ok-visit.ensures.clauses ∙ c.loop-clause.invariant.clauses;
  seeds = c.in_ok-visit.ensures.seeds ∙ c.loop-clause.invariant.seeds;
  search = c.in_ok-visit.ensures.search;
  visited = c.in_ok-visit.ensures.visited ∙ c.loop-clause.invariant.visited;
  grows =
      grows_on _ _ _ _ _ _ _ c.loop-clause.invariant.grows (rw (← c.loop-clause.invariant.visited) c.in_ok-visit.ensures.grows);
  settles = λ p d.
      let v = c.loop-clause.invariant.visited in
      let before = c.args.self.now in
      let q = get_or before.clauses.now p d in
      let grows : Grows before.visited c.loop-clause.self.marks.items c.loop-clause.self.added.items c.visit.new.self.marks.items
      c.visit.new.self.added.items = rw (← v) c.in_ok-visit.ensures.grows in
      let here : get_or c.args.waiting.now c.loop-clause.clause-index 0 ≡ p
      → IsSettled c.visit.new.self.marks.items c.visit.new.self.added.items before.visited q =
      λ e. rw (← e, ← c.loop-clause.invariant.clauses, ← v, ← c.in_ok-visit.ensures.visited) (c.in_ok-visit.ensures.settles d) in
      settled_more (IsSettled before.marks.items before.added.items before.visited q) before.visited
      c.loop-clause.self.marks.items c.loop-clause.self.added.items c.visit.new.self.marks.items c.visit.new.self.added.items
      q c.args.waiting.now c.loop-clause.clause-index p c.loop-clause-test.true grows
      (c.loop-clause.invariant.settles p d) here;
}

pub returns-clause-settles : goal.returns-clause-settles
returns-clause-settles c =
    λ p d h. rw c.loop-clause.invariant.visited
    (c.loop-clause.invariant.settles p d
    (rw (take_all c.loop-clause.clause-index c.args.waiting.now c.loop-clause-test.false) h))
