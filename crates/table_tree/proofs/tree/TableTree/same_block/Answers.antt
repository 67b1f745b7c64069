use Rattle.std.proofs.Common.{rules, ◌≡◌}
use Rattle.table_tree.proofs.Encoded.{equal_tables}
use Rattle.table_tree.proofs.tree.TableTree.same_block.Goals as goal

pub returns : goal.returns
returns c =
    let a = c.in-Some-Some.ensures.bytes in
    let b = c.in-Some-Some.ensures'.bytes in (
      λ t. let e : c.in-Some-Some.one.now ≡ c.in-Some-Some.another.now = search rules in
          equal_tables c.in-Some-Some.ensures.well c.in-Some-Some.ensures'.well c.requires (cc),
      λ e. let s : c.in-Some-Some.one.now ≡ c.in-Some-Some.another.now = cc in search rules,
    )
