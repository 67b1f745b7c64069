use Rattle.std.proofs.Common.{rules, ◌≡◌, ◌+◌, ◌-◌, ◌++◌, List, ℕ, length, take, drop, refl, sym, subst, arith}
use Rattle.shared_bytes.specs.Spliced.{AreSplices, spliced}
use Rattle.shared_bytes.specs.declared.splice.Splice.{Splice}
use Rattle.shared_bytes.proofs.Splicing.{cut_after, cut_splices, splices_before, splices_after, spliced_length}
use Rattle.shared_bytes.proofs.body.Body.cut.Goals as goal

pub overflow_sub-middle : goal.overflow_sub-middle
overflow_sub-middle c =
    let i = c.self.inside in
    cut_after i.base i.at (i.base + length i.own.now) i.end i.splices.now c.args.count c.in_ok-middle.middle c.in_ok-place.place
    c.self.invariant.0 c.in_ok-middle.ensures.cut

pub invariant_of-prefix : goal.invariant_of-prefix
invariant_of-prefix c =
    let i = c.self.inside in
    let o = c.in_ok-middle.middle in
    let following =
    cut_after i.base i.at (i.base + length i.own.now) i.end i.splices.now c.args.count o c.in_ok-place.place
    c.self.invariant.0 c.in_ok-middle.ensures.cut in
    let n : i.base + length c.split_at.result.0.now ≡ o = omega (arith, c.split_at.ensures.front_len) in
    let g =
    splices_before i.base i.at (i.base + length i.own.now) i.end i.splices.now c.args.count o c.in_ok-place.place
    c.self.invariant.0 c.in_ok-middle.ensures.cut in (
      subst (λ (k : ℕ). AreSplices i.base i.at k c.in_ok-place.place c.split_at-2.result.0.now) (sym n)
          (subst (λ (gs : List Splice). AreSplices i.base i.at o c.in_ok-place.place gs) (sym c.split_at-2.ensures.front) g),
      omega (arith, c.self.invariant.1, c.in_ok-middle.ensures.within),
    )

pub invariant_of-rest : goal.invariant_of-rest
invariant_of-rest c =
    let i = c.self.inside in
    let o = c.in_ok-middle.middle in
    let following =
    cut_after i.base i.at (i.base + length i.own.now) i.end i.splices.now c.args.count o c.in_ok-place.place
    c.self.invariant.0 c.in_ok-middle.ensures.cut in
    let n : o + length c.split_at.result.1.now ≡ i.base + length i.own.now =
    omega (arith, c.split_at.ensures.back_len, c.in_ok-middle.ensures.within) in
    let g =
    splices_after i.base i.at (i.base + length i.own.now) i.end i.splices.now c.args.count o c.in_ok-place.place
    c.self.invariant.0 c.in_ok-middle.ensures.cut c.in_ok-middle.ensures.within in (
      subst (λ (k : ℕ). AreSplices o c.in_ok-place.place k i.end c.split_at-2.result.1.now) (sym n)
          (subst (λ (gs : List Splice). AreSplices o c.in_ok-place.place (i.base + length i.own.now) i.end gs)
          (sym c.split_at-2.ensures.back) g),
      omega (arith, c.self.invariant.1),
    )

pub returns-clause-parts : goal.returns-clause-parts
returns-clause-parts c =
    let i = c.self.inside in
    let o = c.in_ok-middle.middle in
    let e : spliced i.base i.own.now i.splices.now ≡ spliced i.base (take (o - i.base) i.own.now)
    (take c.args.count i.splices.now) ++ spliced o (drop (o - i.base) i.own.now) (drop c.args.count i.splices.now) =
    cut_splices i.base i.at (i.base + length i.own.now) i.end i.own.now i.splices.now c.args.count o c.in_ok-place.place
    c.self.invariant.0 refl c.in_ok-middle.ensures.cut c.in_ok-middle.ensures.within in
    cc (
      e,
      c.self.view_is,
      c.split_at.ensures.front,
      c.split_at.ensures.back,
      c.split_at-2.ensures.front,
      c.split_at-2.ensures.back,
    )

pub returns-clause-size : goal.returns-clause-size
returns-clause-size c =
    let i = c.self.inside in
    let place : c.in_ok-place.place ≡ i.at + c.args.offset = search rules in
    let e : i.at + length (spliced i.base c.split_at.result.0.now c.split_at-2.result.0.now) ≡ c.in_ok-place.place =
    spliced_length i.base i.at (i.base + length c.split_at.result.0.now) c.in_ok-place.place c.split_at.result.0.now
    c.split_at-2.result.0.now (invariant_of-prefix c).0 refl in
    omega arith
