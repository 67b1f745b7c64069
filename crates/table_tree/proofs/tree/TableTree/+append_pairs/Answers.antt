use Rattle.std.proofs.Common.{◌≡◌, ◌++◌, List, ℕ, OnOk, append_assoc, subst}
use Rattle.ag_value.specs.Spelling.{spelling_of_pair}
use Rattle.table_tree.proofs.Encoded.{encodings, split_encodings}
use Rattle.table_tree.proofs.tree.TableTree.+append_pairs.Goals as goal

pub returns-clause-ok : goal.returns-clause-ok
returns-clause-ok t c =
    let root = c.in-Some-root.root in
    let old : List ℕ = c.args.out.now.items in
    let left : List ℕ = encodings root.left.now in
    let own : List ℕ = spelling_of_pair root.entry.now.value in
    let right : List ℕ = encodings root.right.now in
    let whole : c.extend_from_slice-2.new.self.items ++ right ≡ old ++ encodings c.args.self.now =
    cc (
      c.in_ok-extend_from_slice-2.ensures.items,
      c.in_ok-append_pairs.ensures.ok,
      append_assoc (old ++ left) own right,
      append_assoc old left (own ++ right),
      split_encodings c.in-Some-root.ensures,
    ) in
    subst (λ (xs : List ℕ). OnOk c.append_pairs-2.result (c.append_pairs-2.new.out.items ≡ xs)) whole
    c.append_pairs-2.ensures.ok
