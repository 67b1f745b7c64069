use Rattle.treefile.proofs.framing.PendingChildren.{all_pending, awaited_are_there, next_pending}
use Rattle.treefile.proofs.framing.Way.{one_record, reading_begins, way_ends, reading_continues}
use Rattle.treefile.proofs.tree_laws.reading_is_followed.Goals as goal

pub returns : goal.returns
returns c = record {
  one = one_record;
  begins = reading_begins;
  goes = reading_continues;
  next = next_pending;
  all = all_pending;
  there = awaited_are_there;
  ends = way_ends;
}
