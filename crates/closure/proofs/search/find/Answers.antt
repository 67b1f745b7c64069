-- The remaining goals of `find`.
use Rattle.std.proofs.Common.{◌≡◌, ◌<◌, length, slice_get, Some, refl, arith, ◌∙◌}
use Rattle.std.proofs.lemmas.Option.{slice_get_read}
use Rattle.closure.proofs.Marks.{complete, next_within, search_taken, settled_first, settled_stays, settled_taken, unmarked}
use Rattle.closure.proofs.Noted.{row_of}
use Rattle.closure.proofs.search.find.Goals as goal

pub loop-search-init : goal.loop-search-init
loop-search-init c = record {
  clauses = c.in_ok-mark_seeds.ensures.clauses ∙ c.in_ok-visit_all.ensures.clauses;
  seeds = c.in_ok-mark_seeds.ensures.seeds ∙ c.in_ok-visit_all.ensures.seeds;
  count = c.in_ok-mark_seeds.ensures.grows.count ∙ c.in_ok-visit_all.ensures.grows.count ∙ omega (arith, c.in_ok-vec.ensures.len);
  search = c.in_ok-mark_seeds.ensures.search;
  settled =
      λ p d inside. rw c.in_ok-mark_seeds.ensures.visited
      (settled_stays _ _ _ _ _ c.in_ok-mark_seeds.ensures.grows _ (c.in_ok-visit_all.ensures.settles p d
      (settled_first _ _ _ _ c.args.facts.now p
      (λ t. rw (c.in_ok-vec.ensures.items_if_clones_equal (λ y h. h)) (unmarked (length c.args.uses.now) t))
      (c.requires.waiting.facts_listed p d inside))));
  seeded = λ t h. c.in_ok-mark_seeds.ensures.marked t (rw c.in_ok-visit_all.ensures.seeds h);
}

pub bounds-uses-number : goal.bounds-uses-number
bounds-uses-number c =
    let lt : c.loop-search.search.visited < length c.loop-search.search.added.items =
    omega (arith, c.len.ensures, c.loop-search-test.true) in
    next_within _ _ _ _ _ _ c.index.result.now
    (length c.args.uses.now) c.loop-search.invariant.count lt c.index.ensures c.loop-search.invariant.search

pub offset_bounds-uses-number : goal.offset_bounds-uses-number
offset_bounds-uses-number c =
    let lt : c.loop-search.search.visited < length c.loop-search.search.added.items =
    omega (arith, c.len.ensures, c.loop-search-test.true) in
    let within =
    next_within _ _ _ _ _ _ c.index.result.now
    (length c.args.uses.now) c.loop-search.invariant.count lt c.index.ensures c.loop-search.invariant.search in
    omega (arith, within, c.in_ok-vec.ensures.len)

pub visit_all-requires-in-loop-search-clause-clauses : goal.visit_all-requires-in-loop-search-clause-clauses
visit_all-requires-in-loop-search-clause-clauses c =
    let lt : c.loop-search.search.visited < length c.loop-search.search.added.items =
    omega (arith, c.len.ensures, c.loop-search-test.true) in
    let here =
    row_of c.args.uses.now c.index.result.now.number c.index-uses-number.result
    (next_within _ _ _ _ _ _ c.index.result.now
    (length c.args.uses.now) c.loop-search.invariant.count lt c.index.ensures c.loop-search.invariant.search)
    c.index-uses-number.is in
    rw (c.as_slice.ensures.value, ← here, c.loop-search.invariant.clauses) (c.requires.waiting.fits c.index.result.now.number)

pub visit_all-requires-in-loop-search-clause-search : goal.visit_all-requires-in-loop-search-clause-search
visit_all-requires-in-loop-search-clause-search c =
    search_taken _ _ _ _ _ _ (omega (arith, c.len.ensures, c.loop-search-test.true)) c.loop-search.invariant.search

pub loop-search-preserved : goal.loop-search-preserved
loop-search-preserved c =
    let x = c.index.result.now in
    let taken = c.in_ok-visit_all-2.ensures in
    let lt : c.loop-search.search.visited < length c.loop-search.search.added.items =
    omega (arith, c.len.ensures, c.loop-search-test.true) in
    let is : slice_get c.loop-search.search.added.items c.loop-search.search.visited ≡ Some x =
    slice_get_read c.loop-search.search.added.items _ c.loop-search.search.visited x refl lt c.index.ensures in
    let here =
    row_of c.args.uses.now x.number c.index-uses-number.result
    (next_within _ _ _ _ _ _ c.index.result.now
    (length c.args.uses.now) c.loop-search.invariant.count lt c.index.ensures c.loop-search.invariant.search)
    c.index-uses-number.is in record {
      clauses = cc;
      seeds = cc;
      count = cc;
      search = taken.search;
      settled =
          λ p d inside. rw (← c.loop-search.invariant.clauses)
          (taken.settles p d (rw (c.loop-search.invariant.clauses, c.as_slice.ensures.value, ← here)
          (settled_taken _ _ _ p x _ _ is (λ t h. c.requires.waiting.listed p t d inside h)
          (c.loop-search.invariant.settled p d inside))));
      seeded = λ t h. taken.grows.marked t (c.loop-search.invariant.seeded t h);
    }

pub returns-clause-marks : goal.returns-clause-marks
returns-clause-marks c =
    λ s. (
      λ m. rw (← c.loop-search.invariant.clauses, ← c.loop-search.invariant.seeds) (c.loop-search.invariant.search.sound s m),
      λ h. complete c.args.clauses.now c.args.seeds.now _ _ _
          (omega (arith, c.len.ensures, c.loop-search-test.false)) c.loop-search.invariant.settled
          c.loop-search.invariant.seeded s h,
    )
