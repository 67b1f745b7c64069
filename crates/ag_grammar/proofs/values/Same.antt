-- Two well values are the same if and only if their spellings are.
use Rattle.ag_grammar.proofs.Common.{◌≡◌, ◌↔◌, [], Bool, IsTrue, bytes_eq, sym, ap, ◌∙◌, bytes_eq-Decides, Value, spelling_of}
use Rattle.std.proofs.lemmas.List.{append-nil}
use Rattle.std.proofs.lemmas.Bool.Decides.{same_from_decides}
use Rattle.ag_value.specs.Well.{IsWell}
use Rattle.ag_value.proofs.Codec.{prefix_free}

-- two well values with the same spelling are the same
pub one_value : (v w : Value) → IsWell v → IsWell w → spelling_of v ≡ spelling_of w → v ≡ w
one_value v w well well' e = prefix_free v w [] well well' (sym e ∙ sym (append-nil (spelling_of v)))

-- a test for the sameness of two well values returns the comparison of their spellings
pub decided : (v w : Value) (b : Bool) → IsWell v → IsWell w → (IsTrue b ↔ (v ≡ w)) → b ≡ bytes_eq (spelling_of v) (spelling_of w)
decided v w b well well' tells =
    same_from_decides b (bytes_eq (spelling_of v) (spelling_of w))
    (λ e. ap spelling_of (tells.0 e), λ e. tells.1 (one_value v w well well' e))
    (bytes_eq-Decides (spelling_of v) (spelling_of w))
