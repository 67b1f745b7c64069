use Rattle.std.proofs.Common.{rules, ◌≡◌}
use Rattle.table_tree.proofs.Encoded.{equal_entries}
use Rattle.table_tree.proofs.entry.Entry.same.Goals as goal

pub returns : goal.returns
returns c = (
  λ t.
      let e : c.as_slice.result.now ≡ c.as_slice-2.result.now = search rules in
      let same = equal_entries c.self.invariant c.other.invariant (cc) in
      cc (same.0, same.1, c.self.view_is, c.other.view_is),
  λ e. let s : c.as_slice.result.now ≡ c.as_slice-2.result.now = cc in search rules,
)
