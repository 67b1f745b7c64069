use Rattle.llparse.proofs.Common.{◌≡◌, ◌+◌, ◌∙◌, arith, length, length-map, index_of, ArePredicted}
use Rattle.llparse.proofs.look_ahead.Columns.{known_of, rows_more}
use Rattle.llparse.proofs.table.conflicts.marks_of.Goals as goal

pub loop-index-preserved : goal.loop-index-preserved
loop-index-preserved c =
    let g = c.args.grammar.now in
    let ok = c.of-sizes.ensures.accepted in
    let x = c.ahead-ahead.result in
    let known = known_of g ok x (rw c.of-sizes.ensures.literals at c.ahead-ahead.ensures.known) in
    let at_index : index_of (length g.literals) x ≡ c.loop-index.index =
    rw c.of-sizes.ensures.literals at c.ahead-ahead.ensures.index in
    record {
      count = omega (arith, c.in_ok-push.ensures.len, c.loop-index.invariant.count);
      marks =
          rw c.in_ok-push.ensures.items
          (rows_more g ok (ArePredicted g) c.loop-index.index x c.loop-index.lists.items c.in_ok-marks.marks
          c.loop-index.invariant.count known at_index c.in_ok-marks.ensures.marks c.loop-index.invariant.marks);
    }

pub returns : goal.returns
returns c =
    let all : c.loop-index.index ≡ length c.args.grammar.now.literals + 4 =
    omega (arith, c.loop-index-test.false, c.loop-index.auto.index-end, c.of-sizes.ensures.literals) in
    record {
      count = length-map _ _ ∙ (c.loop-index.invariant.count ∙ all);
      marks = rw all at c.loop-index.invariant.marks;
    }
