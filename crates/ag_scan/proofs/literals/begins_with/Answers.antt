use Rattle.std.proofs.Common.{rules}
use Rattle.ag_scan.proofs.words.Orders.{exact_prefix}
use Rattle.ag_scan.proofs.literals.begins_with.Goals as goal

pub returns : goal.returns
returns c = exact_prefix c.args.text.now c.args.word.now c.starts_with.result (search rules)
