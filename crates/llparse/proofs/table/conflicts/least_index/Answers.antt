use Rattle.llparse.proofs.Common.{◌≡◌, Bool, false, [], inl, inr, arith, cases_eq, get_or, rows}
use Rattle.std.proofs.lemmas.List.{get_or-map}
use Rattle.std.specs.Global.{Vec}
use Rattle.llparse.specs.table.Conflicts.{has_both}
use Rattle.llparse.proofs.table.conflicts.least_index.Goals as goal

pub loop-index-preserved : goal.loop-index-preserved
loop-index-preserved c = λ k lt.
    let i = c.loop-index.index in
    let lists = c.args.lists.now in
    let r = c.index-lists-index.result in
    let read : get_or (rows lists) i [] ≡ c.as_slice.result.now =
    cc (get_or-map (λ (v : Vec Bool). v.items) lists i r [] c.loop-index-test.true, c.index-lists-index.is, c.as_slice.ensures.value) in
    let here : has_both (get_or (rows lists) i []) c.args.first c.args.second ≡ false =
    cc (read, c.has_both.ensures, c.if-has_both.false) in
    elim (cases_eq k i) [
      | inl same ↦ rw same here
      | inr other ↦ c.loop-index.invariant k (omega (arith, lt))
    ]
