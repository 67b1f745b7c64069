-- From the bytes that were read to all bytes of the reader.
use Rattle.std.proofs.Common.{ℕ, ◌≡◌, ◌<◌, ◌≤◌, ◌+◌, min, ◌∙◌, sym, ap, arith, List, length, take, Option, None, Some, subst}
use Rattle.std.proofs.lemmas.List.{length-take, take_all}
use Rattle.std.specs.Option.{IfSome}

-- a prefix that was cut at n + 1 bytes and has at most n is the whole
pub whole : (known : Option (List ℕ)) (bytes : List ℕ) (n : ℕ) → IfSome known (λ left. bytes ≡ take (n + 1) left)
    → length bytes ≤ n → IfSome known (λ left. left ≡ bytes)
whole None bytes n read few = tt
whole (Some left) bytes n read few = let e : length bytes ≡ min (n + 1) (length left) =
    ap (λ (w : List ℕ). length w) read ∙ length-take (n + 1) left in
    sym (take_all (n + 1) left (omega (arith, e, few))) ∙ sym read

-- a prefix of more than n bytes comes from more than n bytes
pub longer : (known : Option (List ℕ)) (bytes : List ℕ) (n : ℕ) → IfSome known (λ left. bytes ≡ take (n + 1) left)
    → n < length bytes → IfSome known (λ left. n < length left)
longer None bytes n read many = tt
longer (Some left) bytes n read many = let e : length bytes ≡ min (n + 1) (length left) =
    ap (λ (w : List ℕ). length w) read ∙ length-take (n + 1) left in omega (arith, e, many)

-- a property of the bytes that were read holds for the bytes of the reader if these are the same
pub exact : (P : List ℕ → Type 0) (known : Option (List ℕ)) (bytes : List ℕ) → IfSome known (λ left. left ≡ bytes) → P bytes
    → IfSome known P
exact P None bytes same p = tt
exact P (Some left) bytes same p = subst P (sym same) p
