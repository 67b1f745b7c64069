use Rattle.passrun.proofs.Common.{inl, suc, ◌≡◌, ◌+◌, ◌-◌, refl, sym, ap, ◌∙◌, arith, err_from_is_err_and, A}
use Rattle.passrun.specs.Rounds.{last_after, other_content, other_last}
use Rattle.passrun.proofs.course.Stepping.{all_goes_on, all_refused, all_starts, greatest_most, left_again, persists_on}
use Rattle.passrun.proofs.course.Stepping.{persists_still}
use Rattle.passrun.proofs.Totals.{greatest_is_last, solutions_left}
use Rattle.passrun.proofs.passes.run_all.Goals as goal

pub loop-done-init : goal.loop-done-init
loop-done-init g c =
    let given = c.requires.last in
    let most = greatest_most given.1 c.last_pass-passes.ensures in
    let few = given.2 in
    record {
      low = omega arith;
      high = omega arith;
      a_persists = persists_still _ _;
      b_persists = persists_still _ _;
      meter_low = omega arith;
      meter_high = omega arith;
      nodes = omega arith;
      read = omega arith;
      written = omega arith;
      a_left = λ h. (0, inl refl);
      b_left = λ h. (0, inl refl);
      which =
          let none : (c.args.first - 1) - (c.args.first - 1) ≡ 0 = omega arith in
          rw none refl;
      far = λ same. refl;
      runs =
          λ ha hb. all_starts refl (omega arith);
    }

pub loop-done-preserved : goal.loop-done-preserved
loop-done-preserved g c =
    let old = c.loop-done.invariant in
    let low = old.low in
    let less = c.loop-done-test.true in
    let meter_low = old.meter_low in
    let meter_high = old.meter_high in
    let read = old.read in
    let written = old.written in
    let rise = c.next_pass.ensures.rises in
    let most = c.in_ok-passed.ensures.meter in
    let few = c.in_ok-passed.ensures.few in
    let same_read = c.in_ok-passed.ensures.counts.0 in
    let same_written = c.in_ok-passed.ensures.counts.1 in
    let sum = c.one_more-sum.ensures in
    record {
      low = omega arith;
      high = omega arith;
      a_persists = persists_on old.a_persists c.in_ok-passed.ensures.devices.first;
      b_persists = persists_on old.b_persists c.in_ok-passed.ensures.devices.second;
      meter_low = omega arith;
      meter_high = omega arith;
      nodes = rw sum few;
      read = rw sum (omega arith);
      written = rw sum (omega arith);
      a_left = λ h.
          left_again _ _ _ (old.a_left (c.in_ok-passed.ensures.devices.first.honest h)) (c.next_pass.ensures.a_left h);
      b_left = λ h.
          left_again _ _ _ (old.b_left (c.in_ok-passed.ensures.devices.second.honest h)) (c.next_pass.ensures.b_left h);
      which =
          let more : c.loop-done.done + 1 - (c.args.first - 1) ≡ suc (c.loop-done.done - (c.args.first - 1)) = omega arith in
          c.other-last.ensures ∙ ap other_last old.which ∙ sym (ap last_after more);
      far = λ same. absurd (omega arith);
      runs = λ ha hb.
          let next : c.loop-done.done + 1 ≡ suc c.loop-done.done = omega arith in
          let total : c.next_pass.new.meter - c.args.meter.now ≡ (c.loop-done.meter - c.args.meter.now)
          + (c.next_pass.new.meter - c.loop-done.meter) = omega arith in
          all_goes_on c.args.plan.now c.in_ok-passed.passed c.start-start.ensures.accepted c.requires.plan.legal low next
          (old.runs (c.in_ok-passed.ensures.devices.first.honest ha)
          (c.in_ok-passed.ensures.devices.second.honest hb))
          (c.in_ok-passed.ensures.passed ha hb) same_read same_written total c.other-last.ensures sum;
    }

pub returns-clause-passed : goal.returns-clause-passed
returns-clause-passed g c = λ passes is ha hb.
    let a = greatest_most is c.last_pass-passes.ensures in
    let b = greatest_most c.last_pass-passes.ensures is in
    let high = c.loop-done.invariant.high in
    let end = c.loop-done-test.false in
    let same : c.loop-done.done ≡ passes = omega arith in
    rw (← same) (c.loop-done.invariant.runs ha hb)

pub returns-clause-which : goal.returns-clause-which
returns-clause-which g c = λ passes is.
    let a = greatest_most is c.last_pass-passes.ensures in
    let b = greatest_most c.last_pass-passes.ensures is in
    let high = c.loop-done.invariant.high in
    let end = c.loop-done-test.false in
    let same : c.loop-done.done ≡ passes = omega arith in
    rw (← same) c.loop-done.invariant.which

-- From pass 1 on, the passes compute the solution.
pub returns-clause-solution : goal.returns-clause-solution
returns-clause-solution g c = λ one passes is ha hb.
    let first : c.args.first - 1 ≡ 0 = omega arith in
    solutions_left c.start-start.ensures.accepted c.requires.plan.legal
    (greatest_is_last passes c.args.plan.now.assignment is) first (returns-clause-passed g c passes is ha hb)

pub returns-in_err-passed-clause-refused : goal.returns-in_err-passed-clause-refused
returns-in_err-passed-clause-refused g c =
    let p = err_from_is_err_and c.from_residual.result c.from_residual.ensures.1 in
    let next : c.loop-done.done + 1 ≡ suc c.loop-done.done = omega arith in
    let old = c.loop-done.invariant in
    let said = c.in_err-passed.ensures.refused in
    rw (p.1, p.2) (λ ha hb.
    all_refused c.args.plan.now c.args.first next c.requires.first old.low
    (old.runs (c.in_err-passed.ensures.devices.first.honest ha) (c.in_err-passed.ensures.devices.second.honest hb))
    c.in_err-passed.field-0.0 (said ha hb))

pub returns-in_err-passed-clause-a_left : goal.returns-in_err-passed-clause-a_left
returns-in_err-passed-clause-a_left g c = λ h.
    left_again _ _ _ (c.loop-done.invariant.a_left (c.in_err-passed.ensures.devices.first.honest h))
    (c.in_err-passed.ensures.a_left h)

pub returns-in_err-passed-clause-b_left : goal.returns-in_err-passed-clause-b_left
returns-in_err-passed-clause-b_left g c = λ h.
    left_again _ _ _ (c.loop-done.invariant.b_left (c.in_err-passed.ensures.devices.second.honest h))
    (c.in_err-passed.ensures.b_left h)

pub returns-in_err-passed-clause-left : goal.returns-in_err-passed-clause-left
returns-in_err-passed-clause-left g c =
    let p = err_from_is_err_and c.from_residual.result c.from_residual.ensures.1 in
    let old = c.loop-done.invariant in
    let last = c.loop-done.last in
    let a = g.D.Device.content c.loop-done.a in
    let b = g.D.Device.content c.loop-done.b in
    let kept = c.in_err-passed.ensures.kept in
    let left = c.in_err-passed.ensures.left in
    rw p.1 (λ ha hb.
    let ran = old.runs (c.in_err-passed.ensures.devices.first.honest ha) (c.in_err-passed.ensures.devices.second.honest hb) in
    record {
      done = c.loop-done.done;
      which = last;
      before = other_content last a b;
      far = old.low;
      runs =
          rw (kept ha hb) ran.runs;
      held = ran.held;
      none = λ same.
          let first : last ≡ A = (ran.nothing same).0 in (
            first,
            rw first at (kept ha hb ∙ ran.fresh same),
            rw first (old.far same),
          );
      left = left ha hb;
    })
