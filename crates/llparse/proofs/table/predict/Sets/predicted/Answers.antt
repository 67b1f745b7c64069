use Rattle.llparse.proofs.Common
use Common.{◌↔◌, true, ◌≡◌, ◌<◌, length, arith, ap, get_or_from_slice_get, slice_get_within, Production, IsProduction, Predicts}
use Common.{is_marked}
use Rattle.llparse.proofs.look_ahead.Predictions.{predicted_more, predicts_iff}
use Rattle.llparse.proofs.table.predict.Sets.predicted.Goals as goal

pub loop-at-preserved : goal.loop-at-preserved
loop-at-preserved c =
    let g = c.args.grammar.now in
    let r = c.index-productions-at.result in
    let this : (q : Production) → IsProduction g c.loop-at.at q → c.items_can_start.result ≡ true ↔ Predicts g q c.args.ahead =
    λ q at.
    let one : r ≡ q =
    cc (
      c.index-productions-at.is,
      c.productions-productions.ensures.lent,
      get_or_from_slice_get g.productions c.loop-at.at q r at,
    ) in
    rw (
      c.items_can_start.ensures,
      c.as_slice-in_first.ensures.value,
      c.as_slice-nullable.ensures.value,
      c.of-sizes.ensures.symbols,
      c.of-sizes.ensures.literals,
      c.as_slice-items.ensures,
      c.is_marked-following.ensures,
      c.as_slice-in_follow.ensures.value,
      one,
    )
    (predicts_iff g c.of-sizes.ensures.accepted (is_marked c.args.self.now.nullable.items) c.requires.sets.nullable_exact
    c.args.ahead c.in_ok-in_first.in_first.items c.in_ok-in_follow.in_follow.items c.in_ok-in_first.ensures
    c.in_ok-in_follow.ensures c.loop-at.at q at) in
    record {
      count = omega (arith, c.in_ok-push.ensures.len, c.loop-at.invariant.count);
      exact =
          rw (c.in_ok-push.ensures.items, ← c.loop-at.invariant.count)
          (predicted_more g c.args.ahead c.loop-at.marks.items c.items_can_start.result (rw c.loop-at.invariant.count this)
          (rw c.loop-at.invariant.count c.loop-at.invariant.exact));
    }

pub returns-clause-marks : goal.returns-clause-marks
returns-clause-marks c = λ p q e.
    let inside : p < c.loop-at.at =
    omega (
      arith,
      slice_get_within c.args.grammar.now.productions p q e,
      ap length c.productions-productions.ensures.lent,
      c.loop-at-test.false,
    ) in
    c.loop-at.invariant.exact p q inside e
