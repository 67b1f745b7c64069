use Rattle.std.proofs.Common.{◌∙◌, arith}
use Rattle.std.proofs.lemmas.Str.{is_utf8-from_IsUtf8}
use Rattle.table_tree.proofs.entry.Entry.new.Goals as goal

pub invariant_of-result : goal.invariant_of-result
invariant_of-result c = record {
  text = rw c.as_str.ensures at (is_utf8-from_IsUtf8 c.as_str.result.now c.as_str.utf8);
  short = c.requires.short;
  well = c.requires.well;
  item = c.requires.item;
  encoded = cc (c.in_ok-bytes.ensures);
  depth_is = c.depth-depth.ensures ∙ omega arith;
}
