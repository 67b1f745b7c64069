-- A job has only one pair of parts, and they are those at its first line `%%`.
use Rattle.std.proofs.Common.{ℕ, ◌≡◌, inl, inr, ◌∙◌, sym, ap, List, ◌∷◌, ◌++◌, length, take, drop, arith}
use Rattle.std.proofs.Math.Seq.{take-append_seam, drop-append_seam}
use Rattle.ag_job.specs.Jobs.{IsSeparator, OnePairOfParts}

-- if two separators begin one text, what follows them is the same
rest_one : (x y p q : List ℕ) → IsSeparator x p → IsSeparator y q → x ++ p ≡ y ++ q → p ≡ q
rest_one x y p q (inl a) (inl b) e = let f : 37 ∷ 37 ∷ 10 ∷ p ≡ 37 ∷ 37 ∷ 10 ∷ q =
    sym (ap (λ w. w ++ p) a) ∙ e ∙ ap (λ w. w ++ q) b in cc
rest_one x y p q (inl a) (inr (inl b)) e = let f : 37 ∷ 37 ∷ 10 ∷ p ≡ 37 ∷ 37 ∷ 13 ∷ 10 ∷ q =
    sym (ap (λ w. w ++ p) a) ∙ e ∙ ap (λ w. w ++ q) b in absurd cc
rest_one x y p q (inl a) (inr (inr b)) e = let f : 37 ∷ 37 ∷ 10 ∷ p ≡ 37 ∷ 37 ∷ q =
    sym (ap (λ w. w ++ p) a) ∙ e ∙ ap (λ w. w ++ q) b.0 in let none = b.1 in absurd cc
rest_one x y p q (inr (inl a)) (inl b) e = let f : 37 ∷ 37 ∷ 13 ∷ 10 ∷ p ≡ 37 ∷ 37 ∷ 10 ∷ q =
    sym (ap (λ w. w ++ p) a) ∙ e ∙ ap (λ w. w ++ q) b in absurd cc
rest_one x y p q (inr (inl a)) (inr (inl b)) e = let f : 37 ∷ 37 ∷ 13 ∷ 10 ∷ p ≡ 37 ∷ 37 ∷ 13 ∷ 10 ∷ q =
    sym (ap (λ w. w ++ p) a) ∙ e ∙ ap (λ w. w ++ q) b in cc
rest_one x y p q (inr (inl a)) (inr (inr b)) e = let f : 37 ∷ 37 ∷ 13 ∷ 10 ∷ p ≡ 37 ∷ 37 ∷ q =
    sym (ap (λ w. w ++ p) a) ∙ e ∙ ap (λ w. w ++ q) b.0 in let none = b.1 in absurd cc
rest_one x y p q (inr (inr a)) (inl b) e = let f : 37 ∷ 37 ∷ p ≡ 37 ∷ 37 ∷ 10 ∷ q =
    sym (ap (λ w. w ++ p) a.0) ∙ e ∙ ap (λ w. w ++ q) b in let none = a.1 in absurd cc
rest_one x y p q (inr (inr a)) (inr (inl b)) e = let f : 37 ∷ 37 ∷ p ≡ 37 ∷ 37 ∷ 13 ∷ 10 ∷ q =
    sym (ap (λ w. w ++ p) a.0) ∙ e ∙ ap (λ w. w ++ q) b in let none = a.1 in absurd cc
rest_one x y p q (inr (inr a)) (inr (inr b)) e = a.1 ∙ sym b.1

-- two prefixes of one text that have the same length are equal
prefix_one : (a b p q : List ℕ) → length a ≡ length b → a ++ p ≡ b ++ q → a ≡ b
prefix_one a b p q e same =
    sym (take-append_seam a p) ∙ ap (λ n. take n (a ++ p)) e ∙ ap (take (length b)) same ∙ take-append_seam b q

after_one : (a b p q : List ℕ) → length a ≡ length b → a ++ p ≡ b ++ q → p ≡ q
after_one a b p q e same =
    sym (drop-append_seam a p) ∙ ap (λ n. drop n (a ++ p)) e ∙ ap (drop (length b)) same ∙ drop-append_seam b q

pub one_pair : OnePairOfParts
one_pair bytes text sentence other following one two =
    let here = one.parts.first other following two.parts.cut in
    let there = two.parts.first text sentence one.parts.cut in
    let long : length text ≡ length other = omega (arith, here, there) in
    let all = sym one.parts.cut.all ∙ two.parts.cut.all in
    let after_it = after_one text other _ _ long all in (
      prefix_one text other _ _ long all,
      rest_one one.parts.cut.separator two.parts.cut.separator sentence following one.parts.cut.is_separator
          two.parts.cut.is_separator after_it,
    )
