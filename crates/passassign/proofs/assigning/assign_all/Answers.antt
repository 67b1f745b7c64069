use Rattle.passassign.proofs.Common.{◌≡◌, ◌≤◌, length, inl, ap, subst, refl, arith, open_count, AreReady, numbers_of, is_open}
use Rattle.std.proofs.lemmas.List.Sums.{count_by-le-length}
use Rattle.passassign.proofs.making.Finally.{with_of, first_made, least, few, is_table}
use Rattle.passassign.proofs.making.SoFar.{none_so_far, strikes_of_all}
use Rattle.passassign.proofs.assigning.assign_all.Goals as goal

pub of-requires : goal.of-requires
of-requires c =
    let (g, w) = c.requires.accepted in
    record {
      accepted = (
        g,
        w.accepted,
        w.productions_are,
        omega (arith, c.len.ensures, c.in_ok-states.ensures.len, ap length w.symbols_are),
      );
    }

pub loop-open_now-init : goal.loop-open_now-init
loop-open_now-init c =
    let count = rw c.as_slice.ensures.value at c.count_open-open_now.ensures in
    let first = c.in_ok-states.ensures in
    let len : length c.in_ok-states.states.items ≤ 4096 = omega (arith, first.len, c.requires.count) in
    let most = count_by-le-length is_open c.in_ok-states.states.items in
    record {
      ready =
          subst (AreReady c.in_ok-dependencies.dependencies) (omega (arith, c.len.ensures)) c.in_ok-dependencies.ensures.ready;
      len = len;
      count = count;
      next = omega (arith, count, most, len);
      made = λ g w. record {
        of = with_of w c.in_ok-dependencies.ensures.all first;
        made = first_made first;
        turned = refl;
      };
      last = λ g w. inl refl;
      wanted = refl;
      kept =
          λ g w e. rw c.new.ensures.items none_so_far;
    }

pub returns-clause-least : goal.returns-clause-least
returns-clause-least c = λ g w.
    rw c.of_rows.ensures
    (least w (c.loop-open_now.invariant.made g w) (omega (arith, c.loop-open_now.invariant.count))
    (rw c.as_slice-2.ensures.value at c.in_ok-rows.ensures))

pub returns-clause-few : goal.returns-clause-few
returns-clause-few c = λ g w.
    rw c.of_rows.ensures
    (few w (c.loop-open_now.invariant.made g w) (omega (arith, c.loop-open_now.invariant.count))
    (rw c.as_slice-2.ensures.value at c.in_ok-rows.ensures) (omega (arith, c.loop-open_now.invariant.next)))

pub returns-clause-strikes : goal.returns-clause-strikes
returns-clause-strikes c = λ g w wanted.
    let made = c.loop-open_now.invariant.made g w in
    let none : open_count c.loop-open_now.progress.states.items ≡ 0 = omega (arith, c.loop-open_now.invariant.count) in
    let are = rw c.as_slice-2.ensures.value at c.in_ok-rows.ensures in
    rw (c.of_rows.ensures, c.from_vec.ensures)
    (strikes_of_all g (numbers_of c.in_ok-rows.rows.items) (least w made none are).legal (is_table w made none are) made.made
    (c.loop-open_now.invariant.kept g w (rw c.loop-open_now.invariant.wanted wanted)) (c.loop-open_now.invariant.last g w))
