use Rattle.ag_eval.proofs.Common.{◌∙◌, ap, arith, sym, held_value}
use Rattle.ag_eval.proofs.Lists.{appended, deep_item, heavy_item}
use Rattle.ag_eval.proofs.builtins.list_trees.append.Goals as goal

pub returns-then-depth-ge-MAX_VALUE_DEPTH : goal.returns-then-depth-ge-MAX_VALUE_DEPTH
returns-then-depth-ge-MAX_VALUE_DEPTH c =
    let test = c.if-depth-ge-MAX_VALUE_DEPTH.true in
    let depth = c.depth.ensures.value in
    ap held_value c.fault.ensures
    ∙ sym (appended c.args.list.now c.args.item ∙ deep_item c.args.list.now c.args.item (omega arith))

pub returns-then-weight-gt-MAX_WEIGHT : goal.returns-then-weight-gt-MAX_WEIGHT
returns-then-weight-gt-MAX_WEIGHT c =
    let test = c.if-depth-ge-MAX_VALUE_DEPTH.false in
    let depth = c.depth.ensures.value in
    let heavy = c.if-weight-gt-MAX_WEIGHT.true in
    let list = c.weight.ensures.weight in
    let item = c.weight-2.ensures.value in
    ap held_value c.fault-then-weight-gt-MAX_WEIGHT.ensures
    ∙ sym (appended c.args.list.now c.args.item
    ∙ heavy_item c.args.list.now c.args.item c.weight.ensures.well (omega arith) (omega arith))
