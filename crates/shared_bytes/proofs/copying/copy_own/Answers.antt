use Rattle.std.proofs.Common.{rules, ◌≡◌, ◌≤◌, ◌+◌, ◌-◌, min, length, take, drop, ap, ◌∙◌, arith}
use Rattle.shared_bytes.proofs.Reading.{some_read}
use Rattle.shared_bytes.proofs.copying.copy_own.Goals as goal

pub returns-clause-read : goal.returns-clause-read
returns-clause-read c = λ content rest e h.
    let n : c.in-Some.count ≡ min (length c.args.piece.now - c.in-Some.skip) (length c.args.out.now - c.args.done) =
    search rules in
    let le : c.in-Some.skip ≤ length c.args.piece.now = search rules in
    let here : c.args.at + c.args.done ≡ c.args.place + c.in-Some.skip = search rules in
    let is : c.copy_from_slice.new.self ≡ take c.in-Some.count (drop c.in-Some.skip c.args.piece.now) =
    c.copy_from_slice.ensures.after ∙ ap (λ i. take i (drop c.in-Some.skip c.args.piece.now)) (omega arith) in
    some_read c.args.place c.args.at c.args.done c.in-Some.skip c.in-Some.count
    (c.args.done + c.in-Some.count - c.args.done) content c.args.out.now c.args.piece.now rest c.copy_from_slice.new.self h e
    here n le is (omega arith)
