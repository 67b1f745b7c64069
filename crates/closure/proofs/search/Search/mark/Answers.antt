-- The remaining goals of `mark`.
use Rattle.std.proofs.Common.{false}
use Rattle.std.proofs.lemmas.List.{get_or_default}
use Rattle.closure.proofs.Marks.{grows_one, marked_more}
use Rattle.closure.proofs.search.Search.mark.Goals as goal

pub returns-in_ok-push-clause-search : goal.returns-in_ok-push-clause-search
returns-in_ok-push-clause-search c =
    rw c.in_ok-push.ensures.items
    (marked_more _ _ _ _ _ _ _ c.requires.number
    (cc (get_or_default c.args.self.now.marks.items c.args.number false _ c.requires.number)) c.requires.reason c.requires.search)

pub returns-in_ok-push-clause-grows : goal.returns-in_ok-push-clause-grows
returns-in_ok-push-clause-grows c =
    rw c.in_ok-push.ensures.items (grows_one _ _ _ _ c.requires.number c.requires.search.visited_within)
