use Rattle.std.proofs.Common.{rules, ◌≡◌, ◌∙◌, ap, arith, refl}
use Rattle.ag_value.specs.Spelling.{spelling_of_pair}
use Rattle.table_tree.proofs.EncodedParts.{encoded_parts, parts_encoded}
use Rattle.table_tree.proofs.Encoded.{part_lengths}
use Rattle.table_tree.proofs.With.{shorter_left, shorter_right}
use Rattle.table_tree.proofs.tree.TableTree.+has_encoded_pairs.Goals as goal

pub split_at-requires : goal.split_at-requires
split_at-requires t c =
    let lengths = part_lengths c.in-Some-root.ensures c.bytes-own.result.now c.totals-start.ensures.totals (cc) in omega arith

pub split_at-requires-2 : goal.split_at-requires-2
split_at-requires-2 t c =
    let lengths = part_lengths c.in-Some-root.ensures c.bytes-own.result.now c.totals-start.ensures.totals (cc) in omega arith

pub has_encoded_pairs-requires : goal.has_encoded_pairs-requires
has_encoded_pairs-requires t c =
    let lengths = part_lengths c.in-Some-root.ensures c.bytes-own.result.now c.totals-start.ensures.totals (cc) in
    (omega (arith, shorter_left c.in-Some-root.ensures), omega arith)

pub has_encoded_pairs-requires-2 : goal.has_encoded_pairs-requires-2
has_encoded_pairs-requires-2 t c =
    let lengths = part_lengths c.in-Some-root.ensures c.bytes-own.result.now c.totals-start.ensures.totals (cc) in
    (omega (arith, shorter_right c.in-Some-root.ensures), omega arith)

pub returns-then-ne : goal.returns-then-ne
returns-then-ne t c =
    let lengths = part_lengths c.in-Some-root.ensures c.bytes-own.result.now c.totals-start.ensures.totals (cc) in (
      λ b. cc,
      λ e.
          let parts =
          encoded_parts c.split_at.result.0.now c.split_at-2.result.0.now c.split_at-2.result.1.now c.in-Some-root.ensures
          (omega arith) (omega arith) (cc) in
          let same : c.split_at-2.result.0.now ≡ c.bytes-own.result.now = cc in
          absurd (search rules),
    )

pub returns-then-not-has_encoded_pairs : goal.returns-then-not-has_encoded_pairs
returns-then-not-has_encoded_pairs t c =
    let lengths = part_lengths c.in-Some-root.ensures c.bytes-own.result.now c.totals-start.ensures.totals (cc) in (
      λ b. cc,
      λ e.
          let parts =
          encoded_parts c.split_at.result.0.now c.split_at-2.result.0.now c.split_at-2.result.1.now c.in-Some-root.ensures
          (omega arith) (omega arith) (cc) in
          c.if-not-has_encoded_pairs.ensures.1 parts.first,
    )

pub returns : goal.returns
returns t c =
    let lengths = part_lengths c.in-Some-root.ensures c.bytes-own.result.now c.totals-start.ensures.totals (cc) in
    let same : c.split_at-2.result.0.now ≡ c.bytes-own.result.now = search rules in (
      λ b.
          parts_encoded c.in-Some-root.ensures c.split_at.ensures.by_index.0 c.split_at-2.ensures.by_index.0
          (c.if-not-has_encoded_pairs.ensures.0 refl) (same ∙ (c.bytes-own.ensures ∙ ap spelling_of_pair c.deref.ensures))
          (c.has_encoded_pairs-2.ensures.0 b),
      λ e.
          let parts =
          encoded_parts c.split_at.result.0.now c.split_at-2.result.0.now c.split_at-2.result.1.now c.in-Some-root.ensures
          (omega arith) (omega arith) (cc) in
          c.has_encoded_pairs-2.ensures.1 parts.last,
    )
