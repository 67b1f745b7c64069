use Rattle.std.proofs.Common.{rules}
use Rattle.std.proofs.lemmas.List.Sorted.{IsPartitionPoint-from_clause}
use Rattle.ag_scan.proofs.words.Tables.{is_up_to, parted, up_to_point, none_past_point}
use Rattle.ag_scan.proofs.literals.count_not_after.Goals as goal

pub returns : goal.returns
returns c =
    let entries = c.args.entries.now in
    let text = c.args.text.now in
    let point =
    IsPartitionPoint-from_clause (is_up_to text) entries c.partition_point.result c.partition_point.ensures.partitioned
    (parted entries text c.requires) (λ a r q k. search rules) in
    record {
      within = search rules;
      not_after = up_to_point entries text _ point;
      others = none_past_point entries text _ point;
    }
