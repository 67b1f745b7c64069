-- Equality of tables, by their parts.
use Rattle.std.proofs.Common.{◌≡◌, ℕ, suc, ◌+◌, ◌≤◌, List, ◌∷◌, ◌++◌, length, take, drop, Some, slice_get, ap, arith}
use Rattle.std.proofs.Common.{length-append}
use Rattle.std.proofs.Math.Seq.{drop-append_seam, take-append_seam}
use Rattle.std.proofs.lemmas.List.{drop-drop, drop-take, drop_more, length-drop, length-take-le, take-append-drop, take-take}
use Rattle.std.proofs.lemmas.Option.{get_or_from_slice_get}
use Rattle.table_tree.specs.Splits.{IsSplit}
use Rattle.table_tree.proofs.Keys.{Pair}

-- the parts a and b are equal to the parts c and d
pub record AreTwo {A : Type 0} (a b c d : List A) : Type 0 where
  pub first : a ≡ c
  pub rest : b ≡ d

pub two_parts : {A : Type 0} (a b c d : List A) → length a ≡ length c → a ++ b ≡ c ++ d → AreTwo a b c d
two_parts a b c d len e = record {
  first = cc (take-append_seam a b, take-append_seam c d);
  rest = cc (drop-append_seam a b, drop-append_seam c d);
}

-- the parts a, p and b are equal to the parts c, q and d
pub record AreSame (a : List Pair) (p : Pair) (b c : List Pair) (q : Pair) (d : List Pair) : Type 0 where
  pub before : a ≡ c
  pub here : p ≡ q
  pub after : b ≡ d

same_parts : {a : List Pair} {p : Pair} {b c : List Pair} {q : Pair} {d : List Pair} → length a ≡ length c
    → a ++ p ∷ b ≡ c ++ q ∷ d → AreSame a p b c q d
same_parts {a} {p} {b} {c} {q} {d} len e =
    let parts = two_parts a (p ∷ b) c (q ∷ d) len e in record { before = parts.first; here = cc; after = cc }

-- two tables that are equal and split at the same index have equal parts
pub split_same : {ps a : List Pair} {p : Pair} {b qs c : List Pair} {q : Pair} {d : List Pair} → IsSplit ps a p b
    → IsSplit qs c q d → length a ≡ length c → ps ≡ qs → AreSame a p b c q d
split_same s t len e = same_parts len (cc)

sum_taken : (n m : ℕ) (xs : List Pair) → take (n + m) xs ≡ take n xs ++ take m (drop n xs)
sum_taken n m xs = cc (take-append-drop n (take (n + m) xs), take-take n (n + m) xs (omega arith), drop-take n m xs)

-- a split table is compared with the pairs of another table from an index on, part by part
module _ {ps a : List Pair} {p : Pair} {b : List Pair} (qs : List Pair) (i : ℕ) (x : Pair) (s : IsSplit ps a p b)
    (at : slice_get qs (i + length a) ≡ Some x) (le : i + length ps ≤ length qs) where
  pub part_parts : take (length ps) (drop i qs)
      ≡ take (length a) (drop i qs) ++ x ∷ take (length b) (drop (i + length a + 1) qs)
  part_parts =
      let n : ℕ = length a in
      let both = length-append a (p ∷ b) in
      let size : length ps ≡ n + suc (length b) = omega (arith, ap length s.parts) in
      cc (
        sum_taken n (suc (length b)) (drop i qs),
        drop-drop n i qs,
        drop_more qs (i + n) x (omega arith),
        get_or_from_slice_get qs (i + n) x x at,
      )

  pub part_same : ps ≡ take (length ps) (drop i qs)
      → AreSame a p b (take (length a) (drop i qs)) x (take (length b) (drop (i + length a + 1) qs))
  part_same e =
      let both = length-append a (p ∷ b) in
      let within : length a ≤ length (drop i qs) = omega (arith, ap length s.parts, length-drop i qs) in
      same_parts (cc (length-take-le (length a) (drop i qs) within)) (cc part_parts)
