use Rattle.planchecker.proofs.Common.{arith, length-map, Vec, Instr, row_of}
use Rattle.planchecker.proofs.Checked.{row_is}
use Rattle.planchecker.proofs.Loops.{prefix_more, prefix_whole, says_no, says_yes}
use Rattle.planchecker.proofs.shape.are_lists.Goals as goal

pub returns-then-len-pass_count : goal.returns-then-len-pass_count
returns-then-len-pass_count c =
    let v = c.row-item.result in
    let ok = v.ok in
    let len = length-map v.items (λ (w : Vec Instr). w.items) in
    says_no (λ h. c.if-len-pass_count.true
    (let same = h.lists _ _ (row_is _ _ v c.loop-row-test.true c.row-item.is) in omega (arith, c.len.ensures)))

pub loop-row-preserved : goal.loop-row-preserved
loop-row-preserved c =
    let v = c.row-item.result in
    let ok = v.ok in
    let len = length-map v.items (λ (w : Vec Instr). w.items) in
    prefix_more _ _ _ _ (row_is _ _ v c.loop-row-test.true c.row-item.is) c.loop-row.invariant
    (let same = c.if-len-pass_count.false in omega (arith, c.len.ensures))

pub returns : goal.returns
returns c =
    let len = length-map c.args.rows.now (λ (w : Vec (Vec Instr)). row_of w.items) in
    let past = c.loop-row-test.false in
    let many = c.if-rows-productions.false in
    says_yes (record { productions_are = omega arith; lists = prefix_whole _ _ _ (omega arith) c.loop-row.invariant })
