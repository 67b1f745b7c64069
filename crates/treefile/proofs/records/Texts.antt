-- Values that give each leaf of a tree its text.
use Rattle.treefile.proofs.Common
use Common.{ℕ, zero, suc, [], ◌∷◌, slice_get, refl, Text, Grammar, NoRule, Solves, SolvesAll, Valuation, at, no_rules, Tree}
use Common.{Forest, leaf, node, none, more}

abbrev mutual
  texts : Tree → Valuation
  texts (leaf c x) path a = Text x
  texts (node p ts) [] a = Text []
  texts (node p ts) (i ∷ path) a = texts_of_all ts i path a

  texts_of_all : Forest → ℕ → Valuation
  texts_of_all none i path a = Text []
  texts_of_all (more t ts) zero path a = texts t path a
  texts_of_all (more t ts) (suc i) path a = texts_of_all ts i path a

module _ (g : Grammar) where
  mutual
    solved : (t : Tree) → Solves NoRule g t (texts t)
    solved (leaf c x) = refl
    solved (node p ts) = (no_rules (slice_get g.productions p) (at (texts (node p ts))), all_solved ts)

    all_solved : (ts : Forest) → SolvesAll NoRule g ts (texts_of_all ts)
    all_solved none = tt
    all_solved (more t ts) = (solved t, all_solved ts)

pub texts_are_given : (g : Grammar) (t : Tree) → (v : Valuation) × Solves NoRule g t v
texts_are_given g t = (texts t, solved g t)
