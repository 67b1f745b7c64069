use Rattle.ag_eval.proofs.Common.{rules, is_before}
use Rattle.std.proofs.lemmas.List.Sorted.{IsPartitionPoint-from_clause}
use Rattle.ag_eval.proofs.Keys.{partitioned, index_is}
use Rattle.ag_eval.proofs.builtins.tables.index_of.Goals as goal

pub returns-clause-index : goal.returns-clause-index
returns-clause-index c =
    let key = c.args.key.now in
    let pairs = c.args.pairs.now in
    let point =
    IsPartitionPoint-from_clause (λ p. is_before p.0 key) pairs c.partition_point.result c.partition_point.ensures.partitioned
    (partitioned key pairs c.requires) (λ a r q k. search rules) in
    index_is key pairs c.partition_point.result c.requires c.partition_point.ensures.bound point
