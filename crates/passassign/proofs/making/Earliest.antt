-- Passes that are made for two of the sample grammars.
use Rattle.passassign.proofs.Common
use Common.{ℕ, zero, suc, ◌≡◌, ◌≤◌, inl, inr, List, [], ◌∷◌, Some, None, slice_get, length, refl, arith, Each, Production, Rule}
use Common.{Target, Synthesized, Inherited, symbol_kinds, Direction, LeftToRight, RightToLeft, Passes, IsBefore, direction_of}
use Common.{Attributes, IsStruckBy, IsReason, AreGood, partial_of, IsAttribute, IsLeast, IsOpen, AreFinished, IsPass, IsMade}
use Common.{start, passed}
use Rattle.ag_grammar.specs.grammars.Sample.{attribute, grammar_of, sample, copy_rule, zero_rule, s_name, production_r}
use Rattle.ag_grammar.specs.grammars.Sample.{production_a, rule_out, rule_first, rule_second, rule_s, sample_passes, later_passes}
use Rattle.ag_grammar.proofs.grammars.Members.{both, each_more, each_none, only}
use Rattle.ag_grammar.proofs.grammars.samples.NumberSample.{accepted}
use Rattle.passassign.specs.Sample.{strikes_by, rightward, nothing_yet, third_passes}
use Rattle.passassign.proofs.strikes.Sample.{no_reason, others_good}
use Rattle.passassign.proofs.making.Whole.{whole_least}

-- no argument of a rule is a reason
abbrev Quiet : Direction → Attributes → Production → Rule → Type 0
Quiet d candidate q r = Each (λ o. IsReason d candidate [] q r.target.place o → ⊥) r.args

quiet_one : (d : Direction) (candidate : Attributes) (q : Production) (target : Target) (j : ℕ) (name : List ℕ) (a : ℕ)
    → (1 ≤ target.place → j ≡ target.place → ⊥) → (1 ≤ target.place → IsBefore d target.place j → ⊥)
    → Quiet d candidate q (copy_rule target j name a)
quiet_one d candidate q target j name a own later =
    only (λ o. IsReason d candidate [] q target.place o → ⊥) (attribute j a)
    (no_reason d candidate q target.place (attribute j a) own later)

quiet_zero : (d : Direction) (candidate : Attributes) (q : Production) (target : Target) → Quiet d candidate q (zero_rule target)
quiet_zero d candidate q target = each_none (λ o. IsReason d candidate [] q target.place o → ⊥)

quiet_s : (d : Direction) (candidate : Attributes) → Quiet d candidate production_a rule_s
quiet_s d candidate =
    only (λ o. IsReason d candidate [] production_a 0 o → ⊥) (attribute 0 1)
    (no_reason d candidate production_a 0 (attribute 0 1) (λ pos e. omega arith) (λ pos b. omega arith))

-- with two such rules of R beside that of `out`, no attribute can be struck
quiet_all : (d : Direction) (r q : Rule) → let rules = rule_out ∷ r ∷ q ∷ [] in let g = grammar_of rules in
    Quiet d (IsOpen g nothing_yet) (production_r rules) r → Quiet d (IsOpen g nothing_yet) (production_r rules) q
    → AreFinished g d (IsOpen g nothing_yet) []
quiet_all d r q hr hq x is good =
    quiet x.production good.production good.is_production x.rule good.rule good.is_rule x.arg good.argument good.is_argument
    good.reason
  where
    rules : List Rule
    rules = rule_out ∷ r ∷ q ∷ []

    candidate : Attributes
    candidate = IsOpen (grammar_of rules) nothing_yet

    quiet : Each (λ p. Each (Quiet d candidate p) p.rules) (grammar_of rules).productions
    quiet =
        both (λ p. Each (Quiet d candidate p) p.rules) (production_r rules) production_a
        (each_more (Quiet d candidate (production_r rules)) rule_out (r ∷ q ∷ [])
        (quiet_one d candidate (production_r rules) (attribute 0 0) 1 s_name 0 (λ pos e. omega arith) (λ pos b. omega arith))
        (both (Quiet d candidate (production_r rules)) r q hr hq))
        (only (Quiet d candidate production_a) rule_s (quiet_s d candidate))

-- m gives pass k to the three attributes of symbols 0 and 1, and no pass to others
record AllHave (m : Passes) (k : ℕ) : Type 0 where
  first : m 0 ≡ k ∷ []
  second : m 1 ≡ k ∷ k ∷ []
  more : (s : ℕ) → m (suc (suc s)) ≡ []

all_given : (rules : List Rule) (m : Passes) (k : ℕ) → AllHave m k → (s a p : ℕ) → partial_of m s a ≡ Some p
    → IsAttribute (grammar_of rules) s a × (p ≡ k)
all_given rules m k h zero zero p e = let f = rw h.first at e in ((Synthesized, refl), cc)
all_given rules m k h zero (suc a) p e = let f = rw h.first at e in cc
all_given rules m k h (suc zero) zero p e = let f = rw h.second at e in ((Synthesized, refl), cc)
all_given rules m k h (suc zero) (suc zero) p e = let f = rw h.second at e in ((Inherited, refl), cc)
all_given rules m k h (suc zero) (suc (suc a)) p e = let f = rw h.second at e in cc
all_given rules m k h (suc (suc s)) a p e = let f = rw (h.more s) at e in cc

-- a property of the three attributes holds of each
each_attribute : (rules : List Rule) (P : Attributes) → P 0 0 → P 1 0 → P 1 1 → (s a : ℕ) → IsAttribute (grammar_of rules) s a
    → P s a
each_attribute rules P x y z zero zero i = x
each_attribute rules P x y z zero (suc a) i = cc i.1
each_attribute rules P x y z (suc zero) zero i = y
each_attribute rules P x y z (suc zero) (suc zero) i = z
each_attribute rules P x y z (suc zero) (suc (suc a)) i = cc i.1
each_attribute rules P x y z (suc (suc s)) a i = cc i.1

some_given : (xs : List ℕ) (ys : List ℕ) (a p : ℕ) → xs ≡ ys → slice_get ys a ≡ Some p → slice_get xs a ≡ None → ⊥
some_given xs ys a p e f h = cc

-- a pass that strikes nothing is assigned to all three attributes
last_pass : (rules : List Rule) (m : Passes) (k : ℕ) → AllHave m k
    → AreFinished (grammar_of rules) (direction_of k) (IsOpen (grammar_of rules) nothing_yet) []
    → IsPass (grammar_of rules) k nothing_yet (partial_of m) []
last_pass rules m k h quiet = record {
  good = tt;
  finished = quiet;
  kept = λ s a p e. cc e;
  gained = λ s a p e f. let is = all_given rules m k h s a p f in (is.0, is.1, λ i. i);
  left =
      λ s a gap e. each_attribute rules (λ s a. partial_of m s a ≡ None → IsStruckBy [] s a)
      (some_given (m 0) (k ∷ []) 0 k h.first refl) (some_given (m 1) (k ∷ k ∷ []) 0 k h.second refl)
      (some_given (m 1) (k ∷ k ∷ []) 1 k h.second refl) s a gap.0 e;
}

pub sample_made : IsMade sample 2 (partial_of sample_passes)
sample_made =
    passed 1 nothing_yet (partial_of sample_passes) [] (start nothing_yet (λ s a. refl))
    (last_pass (rule_out ∷ rule_first ∷ rule_second ∷ []) sample_passes 1
    (record { first = refl; second = refl; more = λ s. refl })
    (let g = sample in
    let q = production_r (rule_out ∷ rule_first ∷ rule_second ∷ []) in
    quiet_all RightToLeft rule_first rule_second
    (quiet_one RightToLeft (IsOpen g nothing_yet) q (attribute 1 1) 2 s_name 0 (λ pos e. omega arith) (λ pos b. omega arith))
    (quiet_zero RightToLeft (IsOpen g nothing_yet) q (attribute 2 1))))

pub sample_least : IsLeast sample sample_passes
sample_least =
    whole_least sample 2 (partial_of sample_passes) sample_passes accepted.complete accepted.normal sample_made whole
    (λ s a. refl)
  where
    whole : (s : ℕ) → length (sample_passes s) ≡ length (symbol_kinds (slice_get sample.symbols s))
    whole zero = refl
    whole (suc zero) = refl
    whole (suc (suc s)) = refl

pub third_not_least : IsLeast sample third_passes → ⊥
third_not_least h = let le : 3 ≤ 1 = h.least sample_passes sample_least.legal 0 0 3 1 refl refl in omega arith

abbrev rules_right : List Rule
rules_right = rule_out ∷ zero_rule (attribute 1 1) ∷ copy_rule (attribute 2 1) 1 s_name 0 ∷ []

right_good : AreGood rightward RightToLeft (IsOpen rightward nothing_yet) [] (strikes_by 0 2)
right_good = (
  ((Inherited, refl), refl),
  (λ i. i),
  record {
    production = production_r rules_right;
    rule = copy_rule (attribute 2 1) 1 s_name 0;
    argument = attribute 1 0;
    is_production = refl;
    is_rule = refl;
    is_argument = refl;
    symbol = refl;
    attr = refl;
    reason = inr ((omega arith, omega arith, inr (omega arith)), ((Synthesized, refl), refl));
  },
  others_good rightward (zero_rule (attribute 1 1) ∷ copy_rule (attribute 2 1) 1 s_name 0 ∷ []) refl refl RightToLeft
      (IsOpen rightward nothing_yet) 0 2 ((Synthesized, refl), refl) ((Synthesized, refl), refl),
)

all_struck : (s a : ℕ) → IsAttribute rightward s a → IsStruckBy (strikes_by 0 2) s a
all_struck =
    each_attribute rules_right (IsStruckBy (strikes_by 0 2)) (inr (inr (inl (refl, refl)))) (inr (inl (refl, refl)))
    (inl (refl, refl))

first_right : IsPass rightward 1 nothing_yet nothing_yet (strikes_by 0 2)
first_right = record {
  good = right_good;
  finished = λ x gap is. all_struck x.symbol x.attr gap.0;
  kept = λ s a p e. cc;
  gained = λ s a p e f. cc f;
  left = λ s a gap e. all_struck s a gap.0;
}

pub rightward_made : IsMade rightward 3 (partial_of later_passes)
rightward_made =
    passed 2 nothing_yet (partial_of later_passes) []
    (passed 1 nothing_yet nothing_yet (strikes_by 0 2) (start nothing_yet (λ s a. refl)) first_right)
    (last_pass rules_right later_passes 2 (record { first = refl; second = refl; more = λ s. refl })
    (quiet_all LeftToRight (zero_rule (attribute 1 1)) (copy_rule (attribute 2 1) 1 s_name 0)
    (quiet_zero LeftToRight (IsOpen rightward nothing_yet) (production_r rules_right) (attribute 1 1))
    (quiet_one LeftToRight (IsOpen rightward nothing_yet) (production_r rules_right) (attribute 2 1) 1 s_name 0
    (λ pos e. omega arith) (λ pos b. omega arith))))
