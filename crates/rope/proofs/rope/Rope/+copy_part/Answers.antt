use Rattle.std.proofs.Common.{rules, ◌≡◌, ◌≤◌, ◌++◌, ◌+◌, ◌-◌, ℕ, List, length, take, drop, sym}
use Rattle.std.proofs.Common.{subst, arith, length-append}
use Rattle.std.proofs.lemmas.List.{length-take-le, length-drop}
use Rattle.rope.proofs.PartCopies.{IsCopying, all_right, left_copied, right_copied}
use Rattle.rope.proofs.rope.Rope.+copy_part.Goals as goal

-- the part of `out` that a recursive call fills has k bytes
room : (at k : ℕ) (out : List ℕ) → at + k ≤ length out → length (take k (drop at out)) ≡ k
room at k out within = length-take-le k (drop at out) (omega (arith, length-drop at out))

pub loop-rope-preserved-then-len-from : goal.loop-rope-preserved-then-len-from
loop-rope-preserved-then-len-from t c =
    let l = c.loop-rope in
    let p = c.as_ref-pair.result.now in
    let whole = take (length c.args.out.now) (drop c.args.from c.args.self.now) in
    let parts : l.rope.now ≡ p.left ++ p.right = search rules in
    let sizes : length l.rope.now ≡ length p.left + length p.right = cc (length-append p.left p.right) in
    let copying =
    all_right l.at l.end l.from l.rope.now p.left p.right l.out whole l.invariant.copying parts
    (omega (arith, c.len-len.ensures.len)) in
    record {
      copying = subst (λ n. IsCopying l.at l.end (l.from - n) p.right l.out whole) (sym c.len-len.ensures.len) copying;
      fewer = omega (arith, l.invariant.fewer);
    }

pub loop-rope-preserved-then-middle-at : goal.loop-rope-preserved-then-middle-at
loop-rope-preserved-then-middle-at t c =
    let l = c.loop-rope in
    let p = c.as_ref-pair.result.now in
    let whole = take (length c.args.out.now) (drop c.args.from c.args.self.now) in
    let parts : l.rope.now ≡ p.left ++ p.right = search rules in
    let sizes : length l.rope.now ≡ length p.left + length p.right = cc (length-append p.left p.right) in
    let middle = l.at + (c.len-len.result - l.from) in
    let k = middle - l.at in
    let size : length (take k (drop l.at l.out)) ≡ k =
    room l.at k l.out (omega (arith, l.invariant.copying.ordered, l.invariant.copying.within)) in
    let copied : c.copy_part.new.out ≡ take k (drop l.from p.left) = cc in
    record {
      copying = left_copied l.at l.end l.from k middle l.rope.now p.left p.right c.copy_part.new.out l.out whole
          l.invariant.copying parts (omega (arith, c.len-len.ensures.len)) (omega (arith, c.len-len.ensures.len))
          (omega arith) copied;
      fewer = omega (arith, l.invariant.fewer);
    }

pub loop-rope-preserved : goal.loop-rope-preserved
loop-rope-preserved t c =
    let l = c.loop-rope in
    let p = c.as_ref-pair.result.now in
    let whole = take (length c.args.out.now) (drop c.args.from c.args.self.now) in
    let parts : l.rope.now ≡ p.left ++ p.right = search rules in
    let sizes : length l.rope.now ≡ length p.left + length p.right = cc (length-append p.left p.right) in
    let k = c.len-len.result - l.from in
    let m = l.end - (l.at + k) in
    let size : length (take m (drop (l.at + k) l.out)) ≡ m =
    room (l.at + k) m l.out (omega (arith, l.invariant.copying.ordered, l.invariant.copying.within)) in
    let copied : c.copy_part-else-middle-at.new.out ≡ take m (drop 0 p.right) = cc in
    record {
      copying = right_copied l.at l.end l.from k (l.at + k) m l.rope.now p.left p.right
          c.copy_part-else-middle-at.new.out l.out whole l.invariant.copying parts
          (omega (arith, c.len-len.ensures.len)) (omega (arith, c.len-len.ensures.len)) (omega arith) (omega arith) copied;
      fewer = omega (arith, l.invariant.fewer);
    }
