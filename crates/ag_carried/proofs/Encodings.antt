-- An encoding determines its value.
use Rattle.std.proofs.Common.{◌≡◌, List, [], ◌++◌, ℕ, take, drop, sym, ap, ◌∙◌}
use Rattle.std.proofs.lemmas.List.{append-nil, take-append-drop}
use Rattle.ag_value.specs.Spelling.{spelling_of}
use Rattle.ag_value.specs.Well.{IsWell}
use Rattle.ag_value.specs.Reading.{value_at}
use Rattle.ag_value.specs.declared.value.Value.{Value}
use Rattle.ag_value.proofs.Codec.{prefix_free, one_spelled, well_is_read}

pub equal_encodings : (value other : Value) → IsWell value → IsWell other → spelling_of value ≡ spelling_of other → value ≡ other
equal_encodings value other v o e = prefix_free value other [] v o (sym e ∙ sym (append-nil (spelling_of value)))

pub prefix_determines : (input : List ℕ) (len : ℕ) (value other : Value) (rest : List ℕ) → IsWell value → IsWell other
    → take len input ≡ spelling_of value
    → input ≡ spelling_of other ++ rest → value ≡ other
prefix_determines input len value other rest well well' prefix e =
    let parts : input ≡ spelling_of value ++ drop len input =
    sym (take-append-drop len input) ∙ ap (λ (t : List ℕ). t ++ drop len input) prefix in
    ap (λ (p : Value × List ℕ). p.0)
    (one_spelled input (value, drop len input)
    (ap (value_at 64) parts ∙ well_is_read value (drop len input) well) other rest well' e)

pub ruleset encodings = (equal_encodings, prefix_determines)
