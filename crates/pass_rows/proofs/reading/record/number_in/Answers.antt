use Rattle.pass_rows.proofs.Common
use Common.{rules, ◌≡◌, ◌++◌, ◌<◌, ◌-◌, ◌∙◌, ◌∷◌, ℕ, ap, drop, get_or, length, sym, cast_signed, cast_unsigned, w64}
use Rattle.std.proofs.Common.{take}
use Rattle.std.specs.Int.{to_be_bytes}
use Rattle.std.proofs.lemmas.Nat.{be_bytes_8}
use Rattle.std.proofs.lemmas.Int.{of_z-to_z}
use Rattle.ag_value.proofs.Layers.{spelling-Num}
use Rattle.pass_rows.proofs.Recorded.{number_well, tagged}
use Rattle.pass_rows.proofs.reading.record.number_in.Goals as goal

pub returns-clause-spelled : goal.returns-clause-spelled
returns-clause-spelled c =
    let n = c.from_be_bytes-number.result in
    let prefix = c.split_at.result.0.now in
    let rest = c.split_at.result.1.now in
    let following = take (length c.args.bytes.now - 1) (drop 1 c.args.bytes.now) in
    let parts : following ≡ prefix ++ rest = search rules in
    let small : (i : ℕ) → get_or prefix i 0 < 256 = search rules in
    let spelled : to_be_bytes w64 n ≡ prefix =
    be_bytes_8 prefix n c.split_at.ensures.front_len small (search rules) in
    let same : cast_signed w64 (cast_unsigned w64 c.cast_signed.result) ≡ c.cast_signed.result = search rules in
    rw (same, spelling-Num, c.cast_signed.ensures, of_z-to_z w64 n c.from_be_bytes-number.type_inv)
    (tagged c.args.bytes.now c.in-len1-up.len_at_least c.if-tag-ne0.false
    ∙ ap (λ xs. 0 ∷ xs) (parts ∙ ap (λ xs. xs ++ rest) (sym spelled)))

pub returns-clause-well : goal.returns-clause-well
returns-clause-well c =
    let same : cast_signed w64 (cast_unsigned w64 c.cast_signed.result) ≡ c.cast_signed.result = search rules in
    rw same (number_well c.cast_signed.result c.cast_signed.type_inv)
