use Rattle.std.proofs.Common.{◌≡◌, ◌∷◌, [], decimal, refl, arith}
use Rattle.std.proofs.lemmas.Fmt.{decimal_digit}
use Rattle.agoutput.proofs.samples.sample_code_listed.Goals as goal

pub returns : goal.returns
returns c =
    let zero : decimal 0 ≡ 48 ∷ [] = decimal_digit 0 (omega arith) in
    let one : decimal 1 ≡ 49 ∷ [] = decimal_digit 1 (omega arith) in
    let two : decimal 2 ≡ 50 ∷ [] = decimal_digit 2 (omega arith) in
    rw (zero, one, two) refl
