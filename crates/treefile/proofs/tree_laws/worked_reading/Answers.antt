use Rattle.treefile.proofs.WorkedReading.{children_come, header_alone, iffy_is_record, none_within_levels, none_within_nodes}
use Rattle.treefile.proofs.WorkedReading.{one_awaited, one_is_deep, one_is_there, other_pass, q_alone, q_is_none, root_comes}
use Rattle.treefile.proofs.WorkedReading.{t_is_record}
use Rattle.treefile.proofs.tree_laws.worked_reading.Goals as goal

pub returns : goal.returns
returns c = record {
  one = t_is_record;
  token = iffy_is_record;
  none = q_is_none;
  expected = one_awaited;
  there = one_is_there;
  deep = one_is_deep;
  begins = root_comes;
  goes = children_come;
  levels = none_within_levels;
  nodes = none_within_nodes;
  header = header_alone;
  wrong = q_alone;
  other_pass = other_pass;
}
