use Rattle.std.proofs.Common.{◌≡◌, ◌∷◌, ◌-◌, List, ℕ, arith, drop, length, refl}
use Rattle.std.proofs.lemmas.List.{length-drop, take_all}
use Rattle.std.specs.Int.{w32, to_be_bytes}
use Rattle.ag_value.proofs.Layers.{weight-Table}
use Rattle.table_tree.proofs.Encoded.{copied_first, copied_more, encodings, length-encodings, table_encoding}
use Rattle.table_tree.proofs.tree.TableTree.copy_part.Goals as goal

pub loop-done-init : goal.loop-done-init
loop-done-init c =
    let header : List ℕ = c.header-header.result in
    let rest : List ℕ = drop c.min.result header in
    let five : length header ≡ 5 = cc in
    let left = length-drop c.min.result header in
    let number : c.copy_piece-done.result - 0 ≡ c.copy_piece-done.result = omega arith in
    copied_first header (encodings c.args.self.now) (cc (table_encoding c.args.self.now)) five c.min.ensures
    (take_all (5 - c.min.result) rest (omega arith)) c.copy_piece-done.auto.out (omega arith) (cc)

pub overflow_add-from : goal.overflow_add-from
overflow_add-from c = omega arith

pub piece_at-piece-requires : goal.piece_at-piece-requires
piece_at-piece-requires c =
    let past = c.loop-done.invariant.past_header c.loop-done-test.true in
    omega (arith, weight-Table c.args.self.now, length-encodings c.args.self.now)

pub loop-done-preserved : goal.loop-done-preserved
loop-done-preserved c =
    copied_more (3 ∷ to_be_bytes w32 (length c.args.self.now)) (encodings c.args.self.now) c.loop-done.invariant
    c.loop-done-test.true (table_encoding c.args.self.now) refl c.piece_at-piece.ensures c.copy_piece-done-in-loop-done.auto.out
    c.copy_piece-done-in-loop-done.ensures.count c.copy_piece-done-in-loop-done.ensures.bytes
