-- The numbers of rules of the passes add up to the number of rules of a tree.
use Rattle.ag_grammar.proofs.Common
use Common.{◌≡◌, ℕ, zero, suc, ◌+◌, ◌<◌, ◌≤◌, inl, inr, Bool, cond, List, [], ◌∷◌, length, Option, Some, None, slice_get, refl}
use Common.{ap, sym, ◌∙◌, arith, cases_lt, eq-eqb, ne_eqb, Production, Rule, Grammar, Passes, Tree, Forest, leaf, node, none}
use Common.{more}
use Rattle.std.specs.Prelude.{nat_eq}
use Rattle.std.specs.List.{count_by}
use Rattle.std.proofs.lemmas.List.Sums.{sum_by-cons}
use Rattle.ag_grammar.specs.grammars.Counts.{is_of_pass, is_pass, pass_at, pass_rule_count, rule_count, sum_of_passes, total}
use Rattle.ag_grammar.specs.grammars.Counts.{totals}
use Rattle.ag_grammar.specs.grammars.Laws.{PassesHaveAllRules}
use Rattle.ag_grammar.proofs.grammars.Running.{pass_within, target_pass}

-- the count of a list with one more member at its head
pub count_more : {X : Type 0} (f : X → Bool) (x : X) (xs : List X) → count_by f (x ∷ xs) ≡ cond (f x) 1 0 + count_by f xs
count_more f x xs = sum_by-cons (λ x. cond (f x) 1 0) x xs

-- the sums over the nodes of a tree
module _ (g : Grammar) where
  mutual
    total_none : (t : Tree) → total (λ o. 0) g t ≡ 0
    total_none (leaf c x) = refl
    total_none (node p ts) = omega (arith, totals_none ts)

    totals_none : (ts : Forest) → totals (λ o. 0) g ts ≡ 0
    totals_none none = refl
    totals_none (more t ts) = omega (arith, total_none t, totals_none ts)

  module _ (f h : Option Production → ℕ) where
    mutual
      total_add : (t : Tree) → total f g t + total h g t ≡ total (λ o. f o + h o) g t
      total_add (leaf c x) = refl
      total_add (node p ts) = omega (arith, totals_add ts)

      totals_add : (ts : Forest) → totals f g ts + totals h g ts ≡ totals (λ o. f o + h o) g ts
      totals_add none = refl
      totals_add (more t ts) = omega (arith, total_add t, totals_add ts)

  module _ (f h : Option Production → ℕ) (same : (p : ℕ) → f (slice_get g.productions p) ≡ h (slice_get g.productions p)) where
    mutual
      total_same : (t : Tree) → total f g t ≡ total h g t
      total_same (leaf c x) = refl
      total_same (node p ts) = omega (arith, same p, totals_same ts)

      totals_same : (ts : Forest) → totals f g ts ≡ totals h g ts
      totals_same none = refl
      totals_same (more t ts) = omega (arith, total_same t, totals_same ts)

  -- summing over the passes and over the nodes commutes
  sum_total : (f : ℕ → Option Production → ℕ) (first count : ℕ) (t : Tree)
      → sum_of_passes (λ k. total (f k) g t) first count ≡ total (λ o. sum_of_passes (λ k. f k o) first count) g t
  sum_total f first zero t = sym (total_none t)
  sum_total f first (suc n) t =
      ap (λ x. x + total (f (suc (first + n))) g t) (sum_total f first n t)
      ∙ total_add (λ o. sum_of_passes (λ k. f k o) first n) (f (suc (first + n))) t

-- sums over passes
sum_none : (first count : ℕ) → sum_of_passes (λ k. 0) first count ≡ 0
sum_none first zero = refl
sum_none first (suc n) = omega (arith, sum_none first n)

sum_add : (f h : ℕ → ℕ) (first count : ℕ)
    → sum_of_passes (λ k. f k + h k) first count ≡ sum_of_passes f first count + sum_of_passes h first count
sum_add f h first zero = refl
sum_add f h first (suc n) = omega (arith, sum_add f h first n)

-- 1 if two numbers are equal, else 0: each pass is counted once in the sum over passes
hits : ℕ → ℕ → ℕ
hits p k = cond (nat_eq p k) 1 0

no_hit : (p k : ℕ) → (p ≡ k → ⊥) → hits p k ≡ 0
unfolding hits
no_hit p k ne = rw (ne_eqb p k ne) refl

one_hit : (p k : ℕ) → p ≡ k → hits p k ≡ 1
unfolding hits
one_hit p k e = rw (eq-eqb p k e) refl

before_hit : (p count : ℕ) → count < p → sum_of_passes (hits p) 0 count ≡ 0
before_hit p zero less = refl
before_hit p (suc n) less = omega (arith, before_hit p n (omega arith), no_hit p (suc (0 + n)) (λ e. omega arith))

hit_within : (p count : ℕ) → 1 ≤ p → p ≤ count → sum_of_passes (hits p) 0 count ≡ 1
hit_within p zero positive within = absurd (omega arith)
hit_within p (suc n) positive within = elim (cases_lt p (suc n)) [
  | inl less ↦ omega (arith, hit_within p n positive (omega arith), no_hit p (suc (0 + n)) (λ e. omega arith))
  | inr past ↦ omega (arith, before_hit p n (omega arith), one_hit p (suc (0 + n)) (omega arith))
]

sum_same : (f h : ℕ → ℕ) (first count : ℕ) → ((k : ℕ) → f k ≡ h k) → sum_of_passes f first count ≡ sum_of_passes h first count
sum_same f h first zero same = refl
sum_same f h first (suc n) same = omega (arith, sum_same f h first n same, same (suc (first + n)))

hit_of_pass : (m : Passes) (q : Production) (u : Rule) (p k : ℕ) → pass_at m q u.target ≡ Some p
    → cond (is_of_pass m k q u) 1 0 ≡ hits p k
unfolding hits
hit_of_pass m q u p k e = ap (λ o. cond (is_pass k o) 1 0) e

-- each rule of a production is counted in one pass
module _ (m : Passes) (q : Production) (last : ℕ) where
  rules_once : (us : List Rule)
      → ((i : ℕ) (u : Rule) → slice_get us i ≡ Some u → (p : ℕ) × (pass_at m q u.target ≡ Some p) × (1 ≤ p) × (p ≤ last))
      → sum_of_passes (λ k. count_by (is_of_pass m k q) us) 0 last ≡ length us
  rules_once [] has = sum_none 0 last
  rules_once (u ∷ us) has =
      let p = has 0 u refl in
      let first : sum_of_passes (λ k. cond (is_of_pass m k q u) 1 0) 0 last ≡ 1 =
      sum_same (λ k. cond (is_of_pass m k q u) 1 0) (hits p.0) 0 last (λ k. hit_of_pass m q u p.0 k p.1)
      ∙ hit_within p.0 last p.2 p.3 in
      let others : sum_of_passes (λ k. count_by (is_of_pass m k q) us) 0 last ≡ length us =
      rules_once us (λ i w e. has (suc i) w e) in
      let both : sum_of_passes (λ k. cond (is_of_pass m k q u) 1 0 + count_by (is_of_pass m k q) us) 0 last ≡ sum_of_passes
      (λ k. cond (is_of_pass m k q u) 1 0) 0 last + sum_of_passes (λ k. count_by (is_of_pass m k q) us) 0 last =
      sum_add (λ k. cond (is_of_pass m k q u) 1 0) (λ k. count_by (is_of_pass m k q) us) 0 last in
      sum_same (λ k. count_by (is_of_pass m k q) (u ∷ us))
      (λ k. cond (is_of_pass m k q u) 1 0 + count_by (is_of_pass m k q) us) 0 last (λ k. count_more (is_of_pass m k q) u us)
      ∙ both ∙ omega (arith, first, others)

pub passes_have_all_rules : PassesHaveAllRules
passes_have_all_rules g m t last accepted legal is =
    sum_total g (pass_rule_count m) 0 last t
    ∙ total_same g (λ o. sum_of_passes (λ k. pass_rule_count m k o) 0 last) rule_count
    (λ p. go p (slice_get g.productions p) refl) t
  where
    go : (p : ℕ) (o : Option Production) → slice_get g.productions p ≡ o
        → sum_of_passes (λ k. pass_rule_count m k o) 0 last ≡ rule_count o
    go p None e = sum_none 0 last
    go p (Some q) e =
        rules_once m q last q.rules (λ i u at. let x = target_pass g m accepted legal p q u e (i, at) in
        (x.0, x.1, x.2, pass_within last m q u.target x.0 is x.1))
