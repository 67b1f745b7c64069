-- The loop that tests the keys of a table: it has tested one more key (`next_key`), or all keys (`last_key`).
use Rattle.std.proofs.Common.{◌≡◌, ℕ, suc, ◌+◌, ◌<◌, ◌≤◌, Bool, true, false, List, [], ◌∷◌, length, map, drop, get_or, refl}
use Rattle.std.proofs.Common.{drop-cons, arith}
use Rattle.std.proofs.lemmas.List.{drop_all}
use Rattle.std.proofs.lemmas.Str.{is_utf8-from_IsUtf8}
use Rattle.std.specs.declared.cmp.Ordering.{Ordering}
use Rattle.std.specs.declared.cmp.Ordering.TheVariants.{Less, Equal, Greater}
use Rattle.std.specs.Ordering.{is_ge, is_lt}
use Rattle.std.specs.Str.{is_utf8}
use Rattle.ag_value.specs.declared.value.Value.{Value}
use Rattle.ag_value.specs.Well.{are_keys, is_before, key_of}

step : (a b : List ℕ) (keys : List (List ℕ)) → is_before a b ≡ true → is_utf8 a ≡ true
    → are_keys (a ∷ b ∷ keys) ≡ are_keys (b ∷ keys)
step a b keys before utf8 = rw (before, utf8) refl

pub next_key : (a : List ℕ) (ps : List (List ℕ × Value)) (i : ℕ) (p : List ℕ × Value) (whole : Bool) → i < length ps
    → p ≡ get_or ps i p → is_before a p.0 ≡ true → is_utf8 a ≡ true
    → are_keys (a ∷ map key_of (drop i ps)) ≡ whole → are_keys (p.0 ∷ map key_of (drop (i + 1) ps)) ≡ whole
next_key a ps i p whole lt is before utf8 so_far =
    let next : i + 1 ≡ suc i = omega arith in
    let opened : drop i ps ≡ p ∷ drop (i + 1) ps = cc (drop-cons ps i p lt) in
    cc (step a p.0 (map key_of (drop (i + 1) ps)) before utf8)

pub last_key : (a : List ℕ) (ps : List (List ℕ × Value)) (i : ℕ) (whole : Bool) → length ps ≤ i → is_utf8 a ≡ true
    → are_keys (a ∷ map key_of (drop i ps)) ≡ whole → true ≡ whole
last_key a ps i whole le utf8 so_far =
    let one : are_keys (a ∷ []) ≡ true = rw utf8 refl in cc (drop_all i ps le)

pub not_ge : (o : Ordering) → false ≡ is_ge o → is_lt o ≡ true
not_ge Less e = refl
not_ge Equal e = absurd cc
not_ge Greater e = absurd cc

pub ruleset keys = (is_utf8-from_IsUtf8, next_key, last_key)
