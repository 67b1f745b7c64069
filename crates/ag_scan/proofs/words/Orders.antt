-- The order of texts, and their prefixes.
use Rattle.std.proofs.Common.{arith, ◌≡◌, ℕ, Bool, true, false, List, [], ◌∷◌, ◌++◌, length, take, drop, refl, nat_eq, MatchBool}
use Rattle.std.proofs.lemmas.List.{take-append-drop}
use Rattle.std.proofs.Math.Seq.{take-append_seam}
use Rattle.std.specs.Cmp.{ranks, nat_cmp_total, tied_itself, upto}
use Rattle.std.specs.Cmp.Lexicographic.{slice_cmp, nat_list_cmp_total, told_text}
use Rattle.std.specs.List.{starts_with}
use Rattle.std.specs.Ordering.{nat_cmp, is_gt, is_lt}
use Rattle.ag_scan.specs.Table.{IsPrefix, IsNotAfter}

-- a prefix of a text is not after the text
prefix_up : (p rest : List ℕ) → is_gt (slice_cmp nat_cmp p (p ++ rest)) ≡ false
prefix_up [] rest = grind arith
prefix_up (c ∷ p) rest = rw (tied_itself nat_cmp_total c) (prefix_up p rest)

-- a prefix of a text is also a prefix of each text between the two
between : (p m rest : List ℕ) → is_gt (slice_cmp nat_cmp p m) ≡ false → is_gt (slice_cmp nat_cmp m (p ++ rest)) ≡ false
    → IsPrefix p m
between [] m rest a b = (m, refl)
between (c ∷ p) [] rest a b = absurd (cc)
between (c ∷ p) (d ∷ m) rest a b =
    let rank = ranks c d in
    let turned = nat_cmp_total.antisymm d c in
    let (more, found) = between p m rest (grind arith) (grind arith) in
    let same : c ≡ d = grind arith in
    (more, cc)

pub prefix_is_up : (p text : List ℕ) → IsPrefix p text → IsNotAfter p text
prefix_is_up p text (rest, e) = record { up = rw e (prefix_up p rest) }

pub prefix_between : {p m text : List ℕ} → IsNotAfter p m → IsNotAfter m text → IsPrefix p text → IsPrefix p m
prefix_between {p} {m} a b (rest, e) = between p m rest a.up (rw e at b.up)

pub up_up : {a b c : List ℕ} → IsNotAfter a b → IsNotAfter b c → IsNotAfter a c
up_up {a} {b} {c} x y = record { up = upto nat_list_cmp_total a b c x.up y.up }

-- if b is not less than a, then a is not after b
pub not_less : (a b : List ℕ) → is_lt (slice_cmp nat_cmp b a) ≡ false → IsNotAfter a b
not_less a b h = record { up = grind (arith, nat_list_cmp_total.antisymm b a) }

-- the meaning of the result of `starts_with`
pub exact_prefix : (text word : List ℕ) (r : Bool) → r ≡ starts_with nat_eq text word
    → MatchBool r (IsPrefix word text) (IsPrefix word text → ⊥)
exact_prefix text word r e = go r (told_text word (take (length word) text) r e)
  where
    go : (r : Bool) → MatchBool r (word ≡ take (length word) text) (word ≡ take (length word) text → ⊥)
        → MatchBool r (IsPrefix word text) (IsPrefix word text → ⊥)
    go true h =
        (drop (length word) text, cc (take-append-drop (length word) text))
    go false h = λ prefix. h (cc (prefix.1, take-append_seam word prefix.0))
