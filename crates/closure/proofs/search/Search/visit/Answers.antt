-- The remaining goals of `visit`.
use Rattle.closure.proofs.Marks.{clause_reason}
use Rattle.closure.proofs.search.Search.visit.Goals as goal

pub mark-requires-clause-reason : goal.mark-requires-clause-reason
mark-requires-clause-reason c =
    clause_reason c.advance.new.self.clauses.now c.advance.new.self.seeds.now c.advance.new.self.marks.items
    c.advance.new.self.added.items c.advance.ensures.search.is_added c.args.clause c.index-clauses-clause.result
    (rw c.advance.ensures.clauses c.requires.clause)
    (rw (c.advance.ensures.marks, c.advance.ensures.clauses) (c.advance.ensures.whole _ c.if-advance.true))

pub returns-else-advance-clause-settles : goal.returns-else-advance-clause-settles
returns-else-advance-clause-settles c =
    λ d. rw (c.advance.ensures.marks, c.advance.ensures.added, c.advance.ensures.visited)
    (c.advance.ensures.stops d c.if-advance.false)
