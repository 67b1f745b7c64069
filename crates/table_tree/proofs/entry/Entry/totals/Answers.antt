use Rattle.std.proofs.Common.{◌≡◌, ◌≤◌, arith, length, subst}
use Rattle.ag_value.specs.Measure.{weight_of_pair}
use Rattle.table_tree.proofs.Encoded.{length-spelling_of_pair}
use Rattle.table_tree.proofs.Keys.{Pair}
use Rattle.table_tree.proofs.Totalling.{entry_light, totals_alone}
use Rattle.table_tree.proofs.entry.Entry.totals.Goals as goal

pub overflow_cast-result : goal.overflow_cast-result
overflow_cast-result c =
    let size : length c.bytes.result.now ≡ weight_of_pair c.args.self.now = cc (length-spelling_of_pair c.args.self.now) in
    omega (arith, subst (λ (p : Pair). weight_of_pair p ≤ 2097156) c.self.view_is (entry_light c.self.invariant))

pub returns-clause-totals : goal.returns-clause-totals
returns-clause-totals c =
    let size : length c.bytes.result.now ≡ weight_of_pair c.args.self.now = cc (length-spelling_of_pair c.args.self.now) in
    totals_alone c.args.self.now _ (omega arith) (omega arith) (cc)

pub returns-clause-light : goal.returns-clause-light
returns-clause-light c =
    let size : length c.bytes.result.now ≡ weight_of_pair c.args.self.now = cc (length-spelling_of_pair c.args.self.now) in
    omega (arith, subst (λ (p : Pair). weight_of_pair p ≤ 2097156) c.self.view_is (entry_light c.self.invariant))

pub returns-clause-bytes : goal.returns-clause-bytes
returns-clause-bytes c = rw c.bytes.ensures at c.byte_count.ensures.bytes
