use Rattle.std.proofs.Common.{◌≡◌, ◌∙◌, ◌∷◌, ◌++◌, [], List, ℕ, append_assoc}
use Rattle.ag_value.specs.Spelling.{spelling_of_pair}
use Rattle.table_tree.proofs.Encoded.{encodings, encodings_around}
use Rattle.table_tree.proofs.Keys.{Pair}
use Rattle.table_tree.proofs.tree.block_of.Goals as goal

-- the encodings were appended one after the other
appended : (before : List Pair) (p : Pair) (after : List Pair) {none first own second all : List ℕ} → none ≡ []
    → first ≡ none ++ encodings before → own ≡ spelling_of_pair p → second ≡ first ++ own → all ≡ second ++ encodings after
    → all ≡ encodings (before ++ p ∷ after)
appended before p after empty one is two three =
    cc (append_assoc (encodings before) (spelling_of_pair p) (encodings after), encodings_around before p after)

pub returns : goal.returns
returns c =
    c.from_vec.ensures
    ∙ appended c.args.left.now c.args.entry.now c.args.right.now c.in_ok-bytes.ensures.items c.in_ok-append_pairs.ensures.ok
    c.bytes.ensures c.in_ok-extend_from_slice.ensures.items c.in_ok-append_pairs-2.ensures.ok
