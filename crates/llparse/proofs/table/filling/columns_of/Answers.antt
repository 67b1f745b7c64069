use Rattle.llparse.proofs.Common.{◌≡◌, ◌+◌, arith, length, index_of}
use Rattle.llparse.proofs.look_ahead.Columns.{known_of, least_more, rows_more}
use Rattle.llparse.specs.table.Columns.{IsColumn}
use Rattle.llparse.proofs.table.filling.columns_of.Goals as goal

pub loop-index-preserved : goal.loop-index-preserved
loop-index-preserved c =
    let g = c.args.grammar.now in
    let ok = c.of-sizes.ensures.accepted in
    let x = c.ahead-ahead.result in
    let known = known_of g ok x (rw c.of-sizes.ensures.literals at c.ahead-ahead.ensures.known) in
    let at_index : index_of (length g.literals) x ≡ c.loop-index.index =
    rw c.of-sizes.ensures.literals at c.ahead-ahead.ensures.index in
    record {
      count = omega (arith, c.in_ok-push.ensures.len, c.loop-index.invariant.count);
      columns =
          rw c.in_ok-push.ensures.items
          (rows_more g ok (IsColumn g) c.loop-index.index x c.loop-index.choices.items c.in_ok-column.column.choices
          c.loop-index.invariant.count known at_index c.in_ok-column.ensures.column c.loop-index.invariant.columns);
      least =
          least_more g ok c.loop-index.index x known at_index c.loop-index.conflict c.in_ok-column.column.conflict
          c.lesser_conflict-conflict.result c.lesser_conflict-conflict.ensures c.loop-index.invariant.least
          c.in_ok-column.ensures.least;
    }

pub returns-clause-least : goal.returns-clause-least
returns-clause-least c =
    let all : c.loop-index.index ≡ length c.args.grammar.now.literals + 4 =
    omega (arith, c.loop-index-test.false, c.loop-index.auto.index-end, c.of-sizes.ensures.literals) in
    rw all at c.loop-index.invariant.least
