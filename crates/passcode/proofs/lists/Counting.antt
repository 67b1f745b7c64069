-- A list that agrees has one instruction for each rule of its production and pass.
use Rattle.passcode.proofs.Common
use Common.{◌≡◌, ℕ, zero, suc, ◌+◌, ◌<◌, ◌≤◌, inl, inr, Bool, true, false, cond, List, [], ◌∷◌, length, Some, slice_get, refl, ap}
use Common.{sym, ◌∙◌, arith, nat_eq, count_by, cases_lt, eq-eqb, eqb-true, ne_eqb, slice_get_within, Production, Rule}
use Common.{Passes, HasPass, Instr, IsComputation, ListAgrees, IsRuleAt, OccursOnceIf, set_or_def, instruction_of}
use Common.instr
use Rattle.ag_grammar.specs.grammars.Counts.{is_of_pass, is_pass, pass_at}
use Rattle.ag_grammar.proofs.grammars.Counting.{count_more}
use Rattle.passcode.specs.Counts.{is_computation}
use Rattle.passcode.specs.Laws.{ListsEvaluateRules}
use Rattle.passcode.proofs.Leaving.{is_the_pass}

-- whether an instruction evaluates rule n
abbrev evaluates : ℕ → Instr → Bool
evaluates n (instr.Set j a r) = nat_eq r n
evaluates n (instr.Def a r) = nat_eq r n
evaluates n i = false

-- the number of instructions of a list that evaluate one of some rules, which are numbered from n
abbrev evaluated : ℕ → List Rule → List Instr → ℕ
evaluated n [] xs = 0
evaluated n (u ∷ us) xs = count_by (evaluates n) xs + evaluated (suc n) us xs

-- 1 if one instruction evaluates one of these rules, 0 if it evaluates none
abbrev evaluated_by : ℕ → List Rule → Instr → ℕ
evaluated_by n [] i = 0
evaluated_by n (u ∷ us) i = cond (evaluates n i) 1 0 + evaluated_by (suc n) us i

evaluated_none : (n : ℕ) (us : List Rule) → evaluated n us [] ≡ 0
evaluated_none n [] = refl
evaluated_none n (u ∷ us) = omega (arith, evaluated_none (suc n) us)

evaluated_more : (n : ℕ) (us : List Rule) (i : Instr) (xs : List Instr)
    → evaluated n us (i ∷ xs) ≡ evaluated_by n us i + evaluated n us xs
evaluated_more n [] i xs = refl
evaluated_more n (u ∷ us) i xs = omega (arith, count_more (evaluates n) i xs, evaluated_more (suc n) us i xs)

-- if an instruction evaluates no rule numbered from n on, this is 0
by_none : (n : ℕ) (us : List Rule) (i : Instr) → ((k : ℕ) → n ≤ k → evaluates k i ≡ false) → evaluated_by n us i ≡ 0
by_none n [] i never = refl
by_none n (u ∷ us) i never =
    grind (arith, never n (omega arith), by_none (suc n) us i (λ k le. never k (omega arith)))

by_one : (n r : ℕ) (us : List Rule) (i : Instr) → ((k : ℕ) → evaluates k i ≡ nat_eq r k) → n ≤ r → r < n + length us
    → evaluated_by n us i ≡ 1
by_one n r [] i is from to = absurd (omega arith)
by_one n r (u ∷ us) i is from to = elim (cases_lt n r) [
  | inl less ↦ grind (arith, is n ∙ ne_eqb r n (λ e. omega arith), by_one (suc n) r us i is (omega arith) (omega arith))
  | inr past ↦ grind (arith, is n ∙ eq-eqb r n (omega arith), by_none (suc n) us i (λ k le. is k ∙ ne_eqb r k (λ e. omega arith)))
]

-- if an instruction evaluates a rule, the rule's number is below n
abbrev IsNumberBelow : ℕ → Instr → Type 0
IsNumberBelow n i = (r : ℕ) → ((k : ℕ) → evaluates k i ≡ nat_eq r k) → r < n

by_instr : (us : List Rule) (i : Instr) → IsNumberBelow (length us) i → evaluated_by 0 us i ≡ cond (is_computation i) 1 0
by_instr us (instr.Set j a r) is = by_one 0 r us (instr.Set j a r) (λ k. refl) (omega arith) (omega (arith, is r (λ k. refl)))
by_instr us (instr.Def a r) is = by_one 0 r us (instr.Def a r) (λ k. refl) (omega arith) (omega (arith, is r (λ k. refl)))
by_instr us i is = by_none 0 us i (λ k le. refl)

all_evaluated : (us : List Rule) (xs : List Instr) → ((n : ℕ) (i : Instr) → slice_get xs n ≡ Some i → IsNumberBelow (length us) i)
    → count_by is_computation xs ≡ evaluated 0 us xs
all_evaluated us [] is = sym (evaluated_none 0 us)
all_evaluated us (i ∷ xs) is = omega (
  arith,
  count_more is_computation i xs,
  evaluated_more 0 us i xs,
  by_instr us i (is 0 i refl),
  all_evaluated us xs (λ n. is (suc n)),
)

count_none : (f : Instr → Bool) (xs : List Instr) → ((n : ℕ) (i : Instr) → slice_get xs n ≡ Some i → f i ≡ false)
    → count_by f xs ≡ 0
count_none f [] never = refl
count_none f (i ∷ xs) never =
    grind (arith, count_more f i xs, never 0 i refl, count_none f xs (λ n. never (suc n)))

count_one : (f : Instr → Bool) (xs : List Instr) (at : ℕ) (x : Instr) → slice_get xs at ≡ Some x → f x ≡ true
    → ((n : ℕ) (i : Instr) → slice_get xs n ≡ Some i → (n ≡ at → ⊥) → f i ≡ false) → count_by f xs ≡ 1
count_one f [] at x e is only = absurd cc
count_one f (i ∷ xs) zero x e is only =
    let same : i ≡ x = cc in
    grind (arith, ap f same ∙ is, count_more f i xs, count_none f xs (λ n j h. only (suc n) j h (λ z. omega arith)))
count_one f (i ∷ xs) (suc at) x e is only =
    grind (
      arith,
      only 0 i refl (λ z. omega arith),
      count_more f i xs,
      count_one f xs at x e is (λ n j h ne. only (suc n) j h (λ z. ne (omega arith))),
    )

-- the instruction that computes an attribute by rule r evaluates rule r, and no other rule
own_number : (place attr r k : ℕ) → evaluates k (set_or_def place attr r) ≡ nat_eq r k
own_number zero a r k = refl
own_number (suc j) a r k = refl

is_given : (i : Instr) (k : ℕ) → evaluates k i ≡ true → IsComputation i
is_given (instr.Set j a r) k e = (j, a, r, inl refl)
is_given (instr.Def a r) k e = (0, a, r, inr refl)
is_given i k e = absurd cc

by_bool : (b : Bool) → (b ≡ true → ⊥) → b ≡ false
by_bool true never = absurd (never refl)
by_bool false never = refl

module _ (m : Passes) (q : Production) (k : ℕ) (xs : List Instr) (is : ListAgrees m q k xs) where
  own_rule : (n r : ℕ) (i : Instr) → slice_get xs n ≡ Some i → evaluates r i ≡ true → (u : Rule) × IsRuleAt q r u
      × (i ≡ instruction_of u r)
  own_rule n r i occurs e =
      let o = is.computes.own i (is_given i r e) (n, occurs) in
      let same = eqb-true o.0 r (rw (o.3, own_number o.1.target.place o.1.target.attr o.0 r) at e) in
      (o.1, rw same at o.2, rw same at o.3)

  own : (n r : ℕ) (u : Rule) (i : Instr) → IsRuleAt q r u → slice_get xs n ≡ Some i → evaluates r i ≡ true
      → slice_get xs n ≡ Some (instruction_of u r)
  own n r u i at occurs e =
      let o = own_rule n r i occurs e in
      let same : o.0 ≡ u = (let found = o.1 in cc) in
      occurs ∙ ap Some (rw same at o.2)

  one_rule : (r : ℕ) (u : Rule) → IsRuleAt q r u → count_by (evaluates r) xs ≡ cond (is_of_pass m k q u) 1 0
  one_rule r u at = go (is_pass k (pass_at m q u.target)) refl
    where
      once : OccursOnceIf (HasPass m q u.target k) xs (instruction_of u r)
      once = is.computes.computed r u at

      here : evaluates r (instruction_of u r) ≡ true
      here = own_number u.target.place u.target.attr r r ∙ eq-eqb r r refl

      go : (b : Bool) → is_pass k (pass_at m q u.target) ≡ b → count_by (evaluates r) xs ≡ cond b 1 0
      go true e =
          let occurs = once.there ((is_the_pass k (pass_at m q u.target)).0 e) in
          count_one (evaluates r) xs occurs.0 (instruction_of u r) occurs.1 here
          (λ n i e ne. by_bool (evaluates r i) (λ t. ne (once.once n occurs.0 (own n r u i at e t) occurs.1)))
      go false other = count_none (evaluates r) xs (λ n i e. by_bool (evaluates r i)
          (λ t. (is_the_pass k (pass_at m q u.target)).1 other (once.only (n, own n r u i at e t))))

  -- the instructions that evaluate one of some rules, numbered from n, are as many as the rules whose targets have the pass
  each_rule : (n : ℕ) (us : List Rule) → ((i j : ℕ) (u : Rule) → j ≡ n + i → slice_get us i ≡ Some u → IsRuleAt q j u)
      → evaluated n us xs ≡ count_by (is_of_pass m k q) us
  each_rule n [] at = refl
  each_rule n (u ∷ us) at =
      omega (
        arith,
        count_more (is_of_pass m k q) u us,
        one_rule n u (at 0 n u (omega arith) refl),
        each_rule (suc n) us (λ i j w is e. at (suc i) j w (omega arith) e),
      )

  numbered : (n : ℕ) (i : Instr) → slice_get xs n ≡ Some i → IsNumberBelow (length q.rules) i
  numbered n i occurs r e = let o = own_rule n r i occurs (e r ∙ eq-eqb r r refl) in slice_get_within q.rules r o.0 o.1

pub lists_evaluate_rules : ListsEvaluateRules
lists_evaluate_rules m q k xs is = all_evaluated q.rules xs (numbered m q k xs is)
    ∙ each_rule m q k xs is 0 q.rules (λ i j u at e. let same : j ≡ i = omega arith in rw same e)
