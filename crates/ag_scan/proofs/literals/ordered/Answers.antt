use Rattle.std.proofs.Common.{rules}
use Rattle.std.proofs.lemmas.List.Sorted.{answers_always}
use Rattle.ag_scan.proofs.words.Tables.{moved, sorted_is_ordered}
use Rattle.ag_scan.proofs.literals.ordered.Goals as goal

pub returns-clause-literals : goal.returns-clause-literals
returns-clause-literals c = moved _ _ c.sort_by_key.ensures.permutation c.in_ok-entries.ensures.literals

pub returns-clause-ordered : goal.returns-clause-ordered
returns-clause-ordered c =
    sorted_is_ordered _ (c.in_ok-sort_by_key.ensures.sorted (λ w. w.text) (answers_always _ _ _ (λ f a r f' k. search rules)))
