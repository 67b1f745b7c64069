use Rattle.std.proofs.Common.{◌≡◌, ◌+◌, length, refl, ap, arith}
use Rattle.shared_bytes.specs.Spliced.{spliced}
use Rattle.shared_bytes.proofs.Splicing.{spliced_length}
use Rattle.shared_bytes.proofs.body.Body.len.Goals as goal

pub overflow_sub-result : goal.overflow_sub-result
overflow_sub-result c =
    let i = c.self.inside in
    let e : i.at + length (spliced i.base i.own.now i.splices.now) ≡ i.end =
    spliced_length i.base i.at (i.base + length i.own.now) i.end i.own.now i.splices.now c.self.invariant.0 refl in
    omega arith

pub returns : goal.returns
returns c =
    let i = c.self.inside in
    let e : i.at + length (spliced i.base i.own.now i.splices.now) ≡ i.end =
    spliced_length i.base i.at (i.base + length i.own.now) i.end i.own.now i.splices.now c.self.invariant.0 refl in
    let same : length (spliced i.base i.own.now i.splices.now) ≡ length c.args.self.now = ap length c.self.view_is in
    omega arith
