-- The greatest number of bytes of a body.
use Rattle.treefile.proofs.Common
use Common.{ℕ, ◌*◌, ◌≤◌, List, [], ◌∷◌, length, All, arith, flat_map, All-drop, Value, spelling_of, IsWell, Kind, Version}
use Common.{body_of, greatest_body}
use Rattle.std.proofs.lemmas.List.{length-append}
use Rattle.ag_value.proofs.Lengths.{length-spelling}

-- the spelling of a well value has at most 1,048,576 bytes
spelling_size : (value : Value) → IsWell value → length (spelling_of value) ≤ 1048576
spelling_size value well = omega (arith, length-spelling value, well.light)

spellings_size : (values : List Value) → All IsWell values → length (flat_map spelling_of values) ≤ length values * 1048576
spellings_size [] all = omega arith
spellings_size (value ∷ values) all =
    omega (
      arith,
      length-append (spelling_of value) (flat_map spelling_of values),
      spelling_size value (all 0 value (omega arith)),
      spellings_size values (All-drop IsWell 1 (value ∷ values) all),
    )

-- a body whose values are well, and no more than the version allows, has no more bytes than the greatest body
pub body_size : (version : Version) (kind : Kind) (number : ℕ) (values : List Value) → length values ≤ version.max_values
    → All IsWell values → length (body_of kind number values) ≤ greatest_body version
body_size version kind number values few all = omega (arith, spellings_size values all)
