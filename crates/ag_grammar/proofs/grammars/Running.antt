-- Consecutive passes, and the values that they leave.
use Rattle.ag_grammar.proofs.Common
use Common.{◌≡◌, ℕ, zero, suc, ◌<◌, ◌≤◌, inl, inr, [], ◌∷◌, Option, Some, None, slice_get, refl, sym, subst, arith, cases_lt}
use Common.{Value, Item, Production, Rule, Target, Literal, Class, Grammar, IsProduction, IsRule, Synthesized, Inherited}
use Common.{defined_kind, item_at, item_kinds, symbol_kinds, Passes, HasPass, IsLegal, item_passes, AnyRule, NoRule, OfPass}
use Common.{SameAt, Solves, Valuation}
use Common.item
use Rattle.ag_grammar.specs.grammars.Accepted.{IsAccepted}
use Rattle.ag_grammar.specs.grammars.Laws.{RunBegins, RunGoesOn, RunIsTheSolution, RunSolvesRest}
use Rattle.ag_grammar.specs.grammars.Running.{FromPass, IsLastPass, IsTheSolution, RanThrough}
use Rattle.ag_grammar.specs.grammars.Sample.{sample, sample_passes, sample_tree, sample_values}
use Rattle.ag_grammar.proofs.grammars.EachNode.{OfPasses, same_itself, same_on, same_weaker, solves_each, solves_wider}
use Rattle.ag_grammar.proofs.grammars.Kept.{equations_kept}
use Rattle.ag_grammar.proofs.grammars.samples.NumberSample.{accepted as sample_accepted, fits as sample_fits}
use Rattle.ag_grammar.proofs.grammars.samples.NumberSample.{solved as sample_solved}
use Rattle.ag_grammar.proofs.grammars.OneSolution.{counterpart, one_solution}

-- no attribute belongs to a pass after the last one
pub pass_within : (last : ℕ) (m : Passes) (q : Production) (o : Target) (k : ℕ) → IsLastPass last m → HasPass m q o k → k ≤ last
pass_within last m q o k is has = go (item_at q o.place) refl
  where
    token : (a : ℕ) → slice_get (0 ∷ []) a ≡ Some k → k ≤ last
    token zero e = let z : 0 ≡ k = cc in omega arith
    token (suc a) e = absurd (let bad : ⊥ = cc in bad)

    there : (x : Option Item) → item_at q o.place ≡ x → slice_get (item_passes m x) o.attr ≡ Some k
    there x e = subst (λ x. slice_get (item_passes m x) o.attr ≡ Some k) e has

    no_pass : slice_get {X = ℕ} [] o.attr ≡ Some k → k ≤ last
    no_pass e = absurd (let bad : ⊥ = cc in bad)

    go : (x : Option Item) → item_at q o.place ≡ x → k ≤ last
    go None e = no_pass (there None e)
    go (Some (item.Symbol s)) e = is s o.attr k (there (Some (item.Symbol s)) e)
    go (Some (item.Terminal (Class c))) e = token o.attr (there (Some (item.Terminal (Class c))) e)
    go (Some (item.Terminal (Literal l))) e = no_pass (there (Some (item.Terminal (Literal l))) e)

-- each target has a pass, which is at least 1
module _ (g : Grammar) (m : Passes) (accepted : IsAccepted g) (legal : IsLegal g m) where
  given_pass : (q : Production) (j a : ℕ) (x : Option Item) → item_at q j ≡ x
      → slice_get (item_kinds g x) a ≡ Some (defined_kind j) → (k : ℕ) × (slice_get (item_passes m x) a ≡ Some k) × (1 ≤ k)
  given_pass q j a None e kind = absurd (let bad : ⊥ = cc in bad)
  given_pass q j a (Some (item.Symbol s)) e kind =
      let pass = counterpart (symbol_kinds (slice_get g.symbols s)) (m s) a (defined_kind j) (sym (legal.whole s)) kind in
      (pass.0, pass.1, legal.positive s a pass.0 pass.1)
  given_pass q zero a (Some (item.Terminal t)) e kind = absurd (let bad : ⊥ = cc in bad)
  given_pass q (suc j) zero (Some (item.Terminal (Class c))) e kind =
      absurd (let z : Synthesized ≡ Inherited = cc in let bad : ⊥ = cc in bad)
  given_pass q (suc j) (suc a) (Some (item.Terminal (Class c))) e kind = absurd (let bad : ⊥ = cc in bad)
  given_pass q (suc j) a (Some (item.Terminal (Literal l))) e kind = absurd (let bad : ⊥ = cc in bad)

  pub target_pass : (p : ℕ) (q : Production) (r : Rule) → IsProduction g p q → IsRule q r
      → (k : ℕ) × HasPass m q r.target k × (1 ≤ k)
  target_pass p q r is rule =
      given_pass q r.target.place r.target.attr (item_at q r.target.place) refl
      ((accepted.complete p q is).no_other rule.0 r rule.1)

pub run_begins : RunBegins
run_begins g m t u first texts = record {
  texts = texts;
  kept = same_itself (λ p. p < first) g m t u;
  solved = λ k from to. absurd (omega arith);
}

pub run_goes_on : RunGoesOn
run_goes_on g m x t u w v first next legal fits le ran kept own = record {
  texts = solves_wider (OfPass m next) NoRule g (λ p q r production rule bad. absurd bad) t v own;
  kept =
      same_on (λ p. p < first) g m t u w v ran.kept
      (same_weaker (λ p. p < next) (λ p. p < first) g m (λ p h. omega arith) t w v kept);
  solved = solved_on;
}
  where
    solved_on : (k : ℕ) → first ≤ k → k < suc next → Solves (OfPass m k) g t v
    solved_on k from to = elim (cases_lt k next) [
      | inl less ↦ equations_kept g m k k x t w v legal.allowed (omega arith) fits
          (same_weaker (λ p. p < next) (λ p. p ≤ k) g m (λ p h. omega arith) t w v kept) (ran.solved k from less)
      | inr more ↦ (let same : next ≡ k = omega arith in subst (λ j. Solves (OfPass m j) g t v) same own)
    ]

pub run_solves_rest : RunSolvesRest
run_solves_rest g m t u w first last is ran =
    solves_wider (OfPasses m (λ k. (first ≤ k) × (k < suc last))) (FromPass m first) g
    (λ p q r production rule x. (x.0, (x.1, (let le = pass_within last m q r.target x.0 is x.2 in omega arith)), x.2)) t w
    (solves_each m (λ k. (first ≤ k) × (k < suc last)) g t w ran.texts (λ k y. ran.solved k y.0 y.1))

pub run_is_the_solution : RunIsTheSolution
run_is_the_solution g m t u w last accepted legal is tree ran =
    let solves : Solves AnyRule g t w =
    solves_wider (FromPass m 1) AnyRule g
    (λ p q r production rule any. let x = target_pass g m accepted legal p q r production rule in (x.0, x.2, x.1)) t w
    (run_solves_rest g m t u w 1 last is ran) in
    record {
      solves = solves;
      only = λ v other. one_solution g m t v w accepted.start accepted.complete accepted.normal legal tree other solves;
    }

-- every attribute of the sample belongs to pass 1
sample_first : (s a k : ℕ) → slice_get (sample_passes s) a ≡ Some k → k ≡ 1
sample_first zero zero k e = let one : 1 ≡ k = cc in sym one
sample_first zero (suc a) k e = absurd (let bad : ⊥ = cc in bad)
sample_first (suc zero) zero k e = let one : 1 ≡ k = cc in sym one
sample_first (suc zero) (suc zero) k e = let one : 1 ≡ k = cc in sym one
sample_first (suc zero) (suc (suc a)) k e = absurd (let bad : ⊥ = cc in bad)
sample_first (suc (suc s)) a k e = absurd (let bad : ⊥ = cc in bad)

pub sample_last : IsLastPass 1 sample_passes
sample_last s a k e = let one = sample_first s a k e in omega arith

-- hence no earlier pass has values to keep
none_before : (s : ℕ) (e f : ℕ → Value) → SameAt (λ p. p < 1) (sample_passes s) e f
none_before s e f a p is less = absurd (let one = sample_first s a p is in omega arith)

pub sample_ran : (u : Valuation) → RanThrough sample sample_passes sample_tree u 1 2 (sample_values 2)
sample_ran u = record {
  texts = solves_wider AnyRule NoRule sample (λ p q r production rule bad. tt) sample_tree (sample_values 2) sample_solved;
  kept = (
    none_before 0 (u []) (sample_values 2 []),
    (
      (none_before 1 (u (0 ∷ [])) (sample_values 2 (0 ∷ [])), tt),
      ((none_before 1 (u (1 ∷ [])) (sample_values 2 (1 ∷ [])), tt), tt),
    ),
  );
  solved =
      λ k from to. solves_wider AnyRule (OfPass sample_passes k) sample (λ p q r production rule of_pass. tt) sample_tree
      (sample_values 2) sample_solved;
}

pub sample_solution : IsLegal sample sample_passes → IsTheSolution sample sample_passes sample_tree (sample_values 2)
sample_solution legal =
    run_is_the_solution sample sample_passes sample_tree (sample_values 2)
    (sample_values 2) 1 sample_accepted legal sample_last sample_fits (sample_ran (sample_values 2))

pub ruleset sample_settled = (sample_last, sample_solution)
