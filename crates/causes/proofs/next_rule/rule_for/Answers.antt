use Rattle.causes.proofs.Common.{◌∙◌, refl, sym, slice_get_read, length}
use Rattle.causes.proofs.ChainSteps.{number_found}
use Rattle.causes.proofs.Stops.{none_further, none_that_fits}
use Rattle.causes.proofs.next_rule.rule_for.Goals as goal

pub returns-then-eq-clause-number : goal.returns-then-eq-clause-number
returns-then-eq-clause-number c =
    let rules = c.args.rules.now in
    let there = slice_get_read rules (length rules) c.loop-number.number c.index-rules-number.result refl
    c.loop-number-test.true c.index-rules-number.is in
    rw c.ok.ensures.value
    (number_found rules c.args.target c.loop-number.number c.try_from.result there (sym c.eq.ensures ∙ c.if-eq.true)
    c.try_from.ensures)

pub returns-then-eq-clause-none : goal.returns-then-eq-clause-none
returns-then-eq-clause-none c =
    rw c.ok.ensures.value
    (none_that_fits c.args.rules.now c.args.target c.loop-number.number c.try_from.result c.loop-number.invariant
    c.try_from.ensures)

pub loop-number-preserved : goal.loop-number-preserved
loop-number-preserved c =
    let rules = c.args.rules.now in
    let there = slice_get_read rules (length rules) c.loop-number.number c.index-rules-number.result refl
    c.loop-number-test.true c.index-rules-number.is in
    none_further rules c.args.target c.loop-number.number c.index-rules-number.result there (sym c.eq.ensures ∙ c.if-eq.false)
    c.loop-number.invariant
