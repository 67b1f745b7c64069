use Rattle.std.proofs.Common.{◌-◌, ℕ, arith}
use Rattle.std.proofs.lemmas.List.{take_rest}
use Rattle.table_tree.proofs.Encoded.{length-encodings, part_lengths, piece_after, piece_before, piece_here}
use Rattle.table_tree.proofs.With.{shorter_left, shorter_right}
use Rattle.table_tree.proofs.tree.TableTree.+piece_at.Goals as goal

pub piece_at-requires : goal.piece_at-requires
piece_at-requires t c =
    (omega (arith, shorter_left c.in-Some-root.ensures), omega (arith, length-encodings c.in-Some-root.root.left.now))

pub returns-then-offset-before : goal.returns-then-offset-before
returns-then-offset-before t c =
    piece_before c.in-Some-root.ensures c.args.offset (omega (arith, length-encodings c.in-Some-root.root.left.now))
    c.piece_at.ensures

pub returns-then-skip-bytes : goal.returns-then-skip-bytes
returns-then-skip-bytes t c =
    let skip : ℕ = c.args.offset - c.totals-before.result.bytes in
    let lengths = part_lengths c.in-Some-root.ensures c.bytes-bytes.result.now c.totals-before.ensures.totals (cc) in
    piece_here c.in-Some-root.ensures c.args.offset skip (omega arith) (omega arith) (omega arith)
    (cc (take_rest c.bytes-bytes.result.now skip))

pub piece_at-requires-2 : goal.piece_at-requires-2
piece_at-requires-2 t c =
    let lengths = part_lengths c.in-Some-root.ensures c.bytes-bytes.result.now c.totals-before.ensures.totals (cc) in
    (omega (arith, shorter_right c.in-Some-root.ensures), omega arith)

pub returns : goal.returns
returns t c =
    let lengths = part_lengths c.in-Some-root.ensures c.bytes-bytes.result.now c.totals-before.ensures.totals (cc) in
    piece_after c.in-Some-root.ensures c.args.offset _ (omega arith) (omega arith) c.piece_at-2.ensures
