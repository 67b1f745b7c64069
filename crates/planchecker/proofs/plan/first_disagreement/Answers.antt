use Rattle.planchecker.proofs.Common.{read_at}
use Rattle.passcode.proofs.Lawful.{planned}
use Rattle.planchecker.proofs.Checked.{lists_at}
use Rattle.planchecker.proofs.Loops.{first_not, prefix_more, prefix_whole}
use Rattle.planchecker.proofs.plan.first_disagreement.Goals as goal

pub first_wrong_list-requires-clause-planned : goal.first_wrong_list-requires-clause-planned
first_wrong_list-requires-clause-planned c =
    let all = c.productions-production-items.ensures in
    planned _ _ all.accepted c.requires.legal _ _ (read_at _ _ _ _ all.lent c.loop-index-test.true c.production-item.is)

pub first_wrong_list-requires-clause-few : goal.first_wrong_list-requires-clause-few
first_wrong_list-requires-clause-few c =
    (lists_at _ _ _ _ _ _ _ _ c.requires.shape c.rows-rows.ensures c.productions-production-items.ensures.lent
    c.loop-index-test.true c.index-rows-index.is c.as_slice.ensures.value).1

pub returns-in-Some : goal.returns-in-Some
returns-in-Some c =
    let lent = c.productions-production-items.ensures.lent in
    let at = read_at _ _ _ c.production-item.result lent c.loop-index-test.true c.production-item.is in
    let lists = lists_at _ _ _ _ _ _ _ _ c.requires.shape c.rows-rows.ensures lent c.loop-index-test.true c.index-rows-index.is
    c.as_slice.ensures.value in
    let list = rw lists.0 at c.in-Some.ensures in
    record {
      production = _;
      occurs = at;
      first = first_not _ _ _ _ at c.loop-index.invariant (λ h. list.first.not_so (h _ list.first.member list.first.occurs));
      list = list;
    }

pub loop-index-preserved : goal.loop-index-preserved
loop-index-preserved c =
    let lent = c.productions-production-items.ensures.lent in
    let lists = lists_at _ _ _ _ _ _ _ _ c.requires.shape c.rows-rows.ensures lent c.loop-index-test.true c.index-rows-index.is
    c.as_slice.ensures.value in
    prefix_more _ _ _ _ (read_at _ _ _ _ lent c.loop-index-test.true c.production-item.is) c.loop-index.invariant
    (rw lists.0 at c.in_default.ensures)

pub returns : goal.returns
returns c =
    prefix_whole _ _ _ (rw c.productions-production-items.ensures.lent at c.loop-index-test.false) c.loop-index.invariant
