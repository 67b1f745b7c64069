use Rattle.std.proofs.Common.{◌≡◌, ◌+◌, length, ap, arith, zero-add}
use Rattle.shared_bytes.specs.Spliced.{spliced}
use Rattle.shared_bytes.proofs.Splicing.{spliced_length}
use Rattle.shared_bytes.proofs.shared_bytes.SharedBytes.len.Goals as goal

pub returns-clause-len : goal.returns-clause-len
returns-clause-len c =
    let own = c.self.inside.own.items in
    let splices = c.self.inside.splices.items in
    let e : 0 + length (spliced 0 own splices) ≡ c.self.inside.len =
    spliced_length 0 0 (length own) c.self.inside.len own splices c.self.invariant.0 (zero-add (length own)) in
    let same : length (spliced 0 own splices) ≡ length c.args.self.now = ap length c.self.view_is in
    omega arith
