-- The numbers of an encoding are bytes.
use Rattle.std.proofs.Common.{ℕ, zero, suc, List, [], ◌∷◌, ◌++◌}
use Rattle.ag_value.specs.Spelling.{spelling_of_pair}
use Rattle.table_tree.specs.Totals.{AreBytes}
use Rattle.table_tree.proofs.Encoded.{encodings, encodings_around}
use Rattle.table_tree.proofs.Keys.{Pair}

pub bytes_append : (a b : List ℕ) → AreBytes a → AreBytes b → AreBytes (a ++ b)
bytes_append [] b f g i = g i
bytes_append (x ∷ a) b f g zero = f zero
bytes_append (x ∷ a) b f g (suc i) = bytes_append a b (λ j. f (suc j)) g i

pub bytes_around : (before : List Pair) (p : Pair) (after : List Pair) → AreBytes (encodings before)
    → AreBytes (spelling_of_pair p) → AreBytes (encodings after) → AreBytes (encodings (before ++ p ∷ after))
bytes_around before p after f g h =
    rw (encodings_around before p after)
    (bytes_append (encodings before) (spelling_of_pair p ++ encodings after) f
    (bytes_append (spelling_of_pair p) (encodings after) g h))
