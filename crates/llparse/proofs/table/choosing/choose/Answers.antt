use Rattle.llparse.proofs.Common.{◌∙◌, ◌≡◌, ◌<◌, ◌+◌, ◌-◌, arith, length, get_or, slice_get, Some, refl, slice_get-get_or}
use Rattle.llparse.proofs.table.choosing.choose.Goals as goal

pub loop-at-preserved : goal.loop-at-preserved
loop-at-preserved c =
    let r = c.index-productions-at.result in
    let step : c.loop-at.at ≡ (c.loop-at.at - 1) + 1 = omega (arith, c.loop-at-test.true) in
    let inside : c.loop-at.at - 1 < length c.args.productions.now = omega (arith, c.loop-at-test.true, c.loop-at.auto.at) in
    let q = get_or c.args.productions.now (c.loop-at.at - 1) r in
    let is : slice_get c.args.productions.now (c.loop-at.at - 1) ≡ Some q =
    slice_get-get_or c.args.productions.now (c.loop-at.at - 1) r inside in
    let old = rw step at c.loop-at.invariant.earliest in
    let least = rw step at c.loop-at.invariant.least in
    record {
      len = c.choose_if.ensures.len ∙ c.loop-at.invariant.len;
      earliest = c.choose_if.ensures.earliest c.args.productions.now c.args.marks.now q is refl refl old;
      least = c.choose_if.ensures.least c.args.productions.now c.args.marks.now q is refl refl old least;
    }

pub returns-clause-earliest : goal.returns-clause-earliest
returns-clause-earliest c =
    let none : c.loop-at.at ≡ 0 = omega (arith, c.loop-at-test.false) in
    rw none at c.loop-at.invariant.earliest

pub returns-clause-least : goal.returns-clause-least
returns-clause-least c =
    let none : c.loop-at.at ≡ 0 = omega (arith, c.loop-at-test.false) in
    rw none at c.loop-at.invariant.least
