use Rattle.treefile.proofs.Common.{rules}
use Rattle.treefile.proofs.records.Records.{is_body}
use Rattle.treefile.proofs.writing.fill_frame.Goals as goal

-- the body of a record of few well values has a length within the limits
pub close_frame-requires : goal.close_frame-requires
close_frame-requires c =
    rw c.in_ok-fill_body.ensures (search (rules, is_body))
