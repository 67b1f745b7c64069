use Rattle.planchecker.proofs.Common.{arith, length-map, Vec, Instr}
use Rattle.planchecker.proofs.Checked.{items_at}
use Rattle.planchecker.proofs.Lists.{first_list_of}
use Rattle.planchecker.proofs.Loops.{prefix_more, prefix_whole}
use Rattle.planchecker.proofs.following.first_wrong_list.Goals as goal

pub returns-in-Some : goal.returns-in-Some
returns-in-Some c =
    first_list_of _ _ _ _ _ _ (items_at _ _ _ _ c.loop-index-test.true c.index-lists-index.is c.as_slice.ensures.value)
    c.loop-index.invariant c.in-Some.ensures

pub loop-index-preserved : goal.loop-index-preserved
loop-index-preserved c =
    prefix_more _ _ _ _ (items_at _ _ _ _ c.loop-index-test.true c.index-lists-index.is c.as_slice.ensures.value)
    c.loop-index.invariant c.in_default.ensures

pub returns : goal.returns
returns c =
    let len = length-map c.args.lists.now (λ (w : Vec Instr). w.items) in
    let past = c.loop-index-test.false in
    prefix_whole _ _ _ (omega arith) c.loop-index.invariant
