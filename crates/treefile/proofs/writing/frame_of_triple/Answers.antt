use Rattle.treefile.proofs.Common.{w64, spelling-Num}
use Rattle.std.proofs.lemmas.Int.{to_z-of_z}
use Rattle.treefile.proofs.writing.frame_of_triple.Goals as goal

-- the bytes of each part, one after another
pub returns : goal.returns
returns c =
    simp (
      c.number_spelling.ensures,
      c.number_spelling-2.ensures,
      c.number_spelling-3.ensures,
      c.to_be_bytes.ensures,
      c.byte-kind.ensures,
      spelling-Num,
      to_z-of_z w64 c.args.first c.ranges.first,
      to_z-of_z w64 c.args.second c.ranges.second,
      to_z-of_z w64 c.args.third c.ranges.third,
    )
