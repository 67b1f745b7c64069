use Rattle.std.proofs.Common.{rules, ◌≡◌, arith, length}
use Rattle.table_tree.proofs.Compared.{two_parts}
use Rattle.table_tree.proofs.Encoded.{encodings, length-table, table_encoding}
use Rattle.table_tree.proofs.tree.TableTree.has_encoding.Goals as goal

pub split_at-requires : goal.split_at-requires
split_at-requires c = omega (arith, length-table c.args.self.now)

pub returns-then-ne : goal.returns-then-ne
returns-then-ne c =
    let five : length c.header.result ≡ 5 = cc in (
      λ b. cc,
      λ e.
          let parts =
          two_parts c.split_at.result.0.now c.split_at.result.1.now c.header.result (encodings c.args.self.now) (omega arith)
          (cc (table_encoding c.args.self.now)) in
          absurd (search rules),
    )

pub has_encoded_pairs-requires : goal.has_encoded_pairs-requires
has_encoded_pairs-requires c = omega (arith, length-table c.args.self.now)

pub returns : goal.returns
returns c =
    let five : length c.header.result ≡ 5 = cc in
    let same : c.split_at.result.0.now ≡ c.header.result = search rules in (
      λ b. cc (table_encoding c.args.self.now, c.has_encoded_pairs.ensures.0 b),
      λ e.
          let parts =
          two_parts c.split_at.result.0.now c.split_at.result.1.now c.header.result (encodings c.args.self.now) (omega arith)
          (cc (table_encoding c.args.self.now)) in
          c.has_encoded_pairs.ensures.1 parts.rest,
    )
