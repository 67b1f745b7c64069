use Rattle.std.proofs.Common.{◌≡◌, ◌+◌, Some, length, refl, slice_get}
use Rattle.table_tree.proofs.Compared.{part_parts, part_same}
use Rattle.table_tree.proofs.Keys.{Pair}
use Rattle.table_tree.proofs.tree.TableTree.+is_part.Goals as goal

pub returns-then-not-is_part : goal.returns-then-not-is_part
returns-then-not-is_part t c = (
  λ b. cc,
  λ e.
      let parts =
      part_same c.args.other.now c.args.index c.in-Some-entry_at.entry.now c.in-Some.ensures
      (cc (c.in-Some-entry_at.ensures)) c.requires.within e in
      c.if-not-is_part.ensures.1 parts.before,
)

pub returns : goal.returns
returns t c =
    let x : Pair = c.in-Some-entry_at.entry.now in
    let at : slice_get c.args.other.now (c.args.index + length c.in-Some.root.left.now) ≡ Some x =
    cc (c.in-Some-entry_at.ensures) in (
      λ b.
          cc (
            part_parts c.args.other.now c.args.index x c.in-Some.ensures at c.requires.within,
            c.in-Some.ensures.parts,
            c.if-not-is_part.ensures.0 refl,
            c.if-not-same.ensures.0 refl,
            c.is_part-2.ensures.0 b,
          ),
      λ e.
          let parts = part_same c.args.other.now c.args.index x c.in-Some.ensures at c.requires.within e in
          c.is_part-2.ensures.1 (cc),
    )
