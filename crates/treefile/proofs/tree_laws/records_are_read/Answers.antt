use Rattle.treefile.proofs.records.Listing.{bytes_are_left, listed_record, value_is_missing}
use Rattle.treefile.proofs.tree_laws.records_are_read.Goals as goal

pub returns : goal.returns
returns c = record { listed = listed_record; missing = value_is_missing; left = bytes_are_left }
