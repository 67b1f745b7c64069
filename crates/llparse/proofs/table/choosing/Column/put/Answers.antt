use Rattle.llparse.proofs.Common.{◌≡◌, None, choice_at}
use Rattle.std.proofs.lemmas.List.{get_or_default}
use Rattle.llparse.proofs.look_ahead.Choices.{pairs_conflict, put_chosen}
use Rattle.llparse.proofs.table.choosing.Column.put.Goals as goal

pub returns-clause-earliest : goal.returns-clause-earliest
returns-clause-earliest c =
    λ qs marks q is same marked old.
    rw (← same)
    (put_chosen qs marks c.args.production q is marked c.args.self.now.choices.items (rw same c.requires.symbol) old)

pub returns-clause-least : goal.returns-clause-least
returns-clause-least c = λ qs marks q is same marked old least.
    let choices = c.args.self.now.choices.items in
    let read : c.index.result.now ≡ choice_at choices q.left =
    cc (c.index.ensures, get_or_default choices c.args.symbol c.index.result.now None c.requires.symbol) in
    pairs_conflict qs marks c.args.production q is marked choices c.index.result.now c.args.self.now.conflict
    c.conflict_with-self.result read c.conflict_with-self.ensures.some c.conflict_with-self.ensures.none old least
