use Rattle.std.proofs.Common.{◌≡◌, ◌++◌, ◌∷◌, List, ℕ, OnOk, append_assoc, length, subst}
use Rattle.std.specs.Int.{w32, to_be_bytes}
use Rattle.ag_value.specs.Spelling.{spelling_of}
use Rattle.ag_value.specs.declared.value.Value.TheVariants as v
use Rattle.table_tree.proofs.Encoded.{encodings, table_encoding}
use Rattle.table_tree.proofs.tree.TableTree.append_all.Goals as goal

pub returns-clause-ok : goal.returns-clause-ok
returns-clause-ok c =
    let old : List ℕ = c.args.out.now.items in
    let rest : List ℕ = encodings c.args.self.now in
    let whole : c.extend_from_slice.new.self.items ++ rest ≡ old ++ spelling_of (v.Table c.args.self.now) =
    cc (
      c.in_ok-extend_from_slice.ensures.items,
      c.in_ok-reserve.ensures.items,
      table_encoding c.args.self.now,
      append_assoc old (3 ∷ to_be_bytes w32 (length c.args.self.now)) rest,
    ) in
    subst (λ (xs : List ℕ). OnOk c.append_pairs.result (c.append_pairs.new.out.items ≡ xs)) whole c.append_pairs.ensures.ok
