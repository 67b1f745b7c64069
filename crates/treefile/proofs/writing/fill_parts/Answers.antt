use Rattle.treefile.proofs.Common.{rules}
use Rattle.treefile.proofs.records.Records.{is_body}
use Rattle.treefile.proofs.writing.fill_parts.Goals as goal

-- the body of a record of few well values has a length within the limits
pub close_parts-requires : goal.close_parts-requires
close_parts-requires c =
    rw c.in_ok-fill_parts_of_body.ensures (search (rules, is_body))
