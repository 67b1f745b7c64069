use Rattle.treefile.proofs.Common.{rules, ◌-◌, length, version_two}
use Rattle.treefile.proofs.Lending.{cut_out, dropped_bytes}
use Rattle.treefile.proofs.shared.body_before.Goals as goal

pub returns-clause-body : goal.returns-clause-body
returns-clause-body c =
    let len = c.in_ok-length.length in
    cut_out version_two c.args.bytes.now c.in_ok-frame.frame c.in_ok-frame._after c.in_ok-rest.rest c.in_ok-rest.last
    c.in_ok-_before._before c.in_ok-_before.body c.args.at len
    (search rules) c.in_ok-frame.ensures.size c.in_ok-rest.ensures.parts c.in_ok-rest.ensures.size (search rules)
    c.in_ok-_before.ensures.parts (search rules) (search rules) (search rules)

pub returns-clause-bytes : goal.returns-clause-bytes
returns-clause-bytes c = dropped_bytes (c.args.at - 4 - length c.in_ok-_before.body) c.args.bytes.now c.len-count.ensures.bytes
