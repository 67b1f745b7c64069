-- Pass 1 from a file of its own, and the other passes after it, over the same tree.
use Rattle.aggen.proofs.Common
use Common.{◌≡◌, ℕ, zero, suc, ◌+◌, ◌*◌, ◌<◌, ◌≤◌, inl, inr, List, sym, subst, arith, cases_lt, Grammar, rules_of_pass}
use Common.{sum_of_passes, IsLegal, Passes, OfPass, Same, Solves, Valuation, Tree, IsTreeOf, node_count, IsFileOfTree, HasRun}
use Common.{Version, Passed, Last, HasCounted, other_content}
use Rattle.std.proofs.Math.Nat.{suc-mul}
use Rattle.ag_grammar.specs.declared.grammar.Item.TheVariants as item
use Rattle.ag_grammar.proofs.grammars.EachNode.{same_weaker}
use Rattle.ag_grammar.proofs.grammars.Kept.{equations_kept}
use Rattle.treefile.proofs.SameFile.{same_file}
use Rattle.aggen.specs.Translation.{before_last}

-- Pass 1 met its equations with the values u, and `start` is the tree's file of pass 0 with them. The other passes ran from u on.
module _ {version : Version} {g : Grammar} {m : Passes} {t : Tree} {u : Valuation} {last : ℕ} {start now : List ℕ}
    (which : Last) (a b : List ℕ) (legal : IsLegal g m) (tree : IsTreeOf g t) (from : IsFileOfTree version g m 0 t u start)
    (one : Solves (OfPass m 1) g t u) (run : HasRun version g m t u 2 last now (other_content which a b)) where
  -- the values of the passes before pass 2 are kept
  kept : (X : ℕ → Type 0) → ((p : ℕ) → X p → p < 2) → Same X g m t u run.values
  kept X below = same_weaker (λ p. p < 2) X g m below t u run.values run.ran.kept

  solved : (j : ℕ) → 1 ≤ j → j < suc last → Solves (OfPass m j) g t run.values
  solved j low high = elim (cases_lt j 2) [
    | inl less ↦ (let same : 1 ≡ j = omega arith in
        subst (λ j. Solves (OfPass m j) g t run.values) same
        (equations_kept g m 1 1 (item.Symbol g.start) t u run.values legal.allowed (omega arith) tree
        (kept (λ p. p ≤ 1) (λ p h. omega arith)) one))
    | inr more ↦ run.ran.solved j more high
  ]

  -- the file of the pass before the last is the other one, or if one pass ran, the file of the tree
  before : (k : ℕ) → last ≡ suc k → IsFileOfTree version g m k t run.values (before_last last which start a b)
  before zero e =
      subst (λ n. IsFileOfTree version g m 0 t run.values (before_last n which start a b)) (sym e)
      (same_file version g m 0 t u run.values start (kept (λ p. p ≤ 0) (λ p h. omega arith)) from)
  before (suc k) e =
      subst (λ n. IsFileOfTree version g m (suc k) t run.values (before_last n which start a b)) (sym e)
      (run.other (suc k) (omega arith) e)

  -- All passes ran.
  pub joined : HasRun version g m t u 1 last now (before_last last which start a b)
  joined = record {
    values = run.values;
    ran = record { texts = run.ran.texts; kept = kept (λ p. p < 1) (λ p h. omega arith); solved = solved };
    file = run.file;
    other = λ k low e. before k e;
  }

-- the sum over all passes is that of the first and of the others
sums_joined : (f : ℕ → ℕ) (n : ℕ) → sum_of_passes f 0 (suc n) ≡ f 1 + sum_of_passes f 1 n
sums_joined f zero = omega arith
sums_joined f (suc n) = grind (arith, sums_joined f n)

-- the counts of pass 1 and the others add up to those of all passes
pub counts_joined : {g : Grammar} {m : Passes} {t : Tree} {n first read written evals : ℕ} {others : Passed}
    → first ≡ rules_of_pass m 1 g t → read ≡ node_count t → written ≡ node_count t → HasCounted g m t 1 n evals others
    → (first + evals ≡ sum_of_passes (λ p. rules_of_pass m p g t) 0 (suc n)) × (read + others.read ≡ suc n * node_count t)
    × (written + others.written ≡ suc n * node_count t)
counts_joined {g} {m} {t} {n} rules read written counted =
    let whole = suc-mul n (node_count t) in
    let sum = sums_joined (λ p. rules_of_pass m p g t) n in
    (cc counted.evals_are, omega (arith, counted.read), omega (arith, counted.written))
