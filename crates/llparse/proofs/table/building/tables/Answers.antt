use Rattle.llparse.proofs.Common.{◌≡◌}
use Rattle.llparse.proofs.look_ahead.Columns.{fits, free_of, least_of}
use Rattle.llparse.proofs.table.building.tables.Goals as goal

pub returns-in-Some-clause-conflict : goal.returns-in-Some-clause-conflict
returns-in-Some-clause-conflict c = λ symbol first second x e.
    let g = c.args.grammar.now in
    let r = c.index-productions-least.result in
    let k = c.in-Some.least in
    let first_is : k.first ≡ first = cc in
    let second_is : k.second ≡ second = cc in
    let ahead_is : k.ahead ≡ x = cc in
    rw (first_is, second_is, ahead_is) at
    (least_of g c.productions.ensures.accepted k r symbol (rw c.in-Some.is at c.in_ok-columns.ensures.least)
    (cc (c.index-productions-least.is, c.productions.ensures.lent)))

pub returns-clause-free : goal.returns-clause-free
returns-clause-free c =
    free_of c.args.grammar.now c.of.ensures.accepted (rw c.in_default.is at c.in_ok-columns.ensures.least)

pub returns-clause-fits : goal.returns-clause-fits
returns-clause-fits c =
    let g = c.args.grammar.now in
    fits g c.of.ensures.accepted _ c.of.ensures.literals c.in_ok-columns.ensures.columns
    (free_of g c.of.ensures.accepted (rw c.in_default.is at c.in_ok-columns.ensures.least))
