-- Passes over files one after the other: each reads the file of the previous pass and leaves its own, of the
-- same tree (after Jazayeri and Walter 1975). The letters are those of `records/Records.antt`; u are values too.
use Rattle.std.specs.Prelude.{ℕ, suc, ◌≡◌, ◌<◌, ◌≤◌, List}
use Rattle.ag_grammar.specs.grammars.AttributeGrammar.{Grammar}
use Rattle.ag_grammar.specs.grammars.Passes.{Passes}
use Rattle.ag_grammar.specs.grammars.Running.{RanThrough}
use Rattle.ag_grammar.specs.grammars.Solution.{OfPass, Same, Solves, Valuation}
use Rattle.ag_grammar.specs.grammars.Tree.{IsTreeOf, Tree}
use Rattle.treefile.specs.records.Records.{IsFileOfTree}
use Rattle.treefile.specs.records.TreeFile.{Version}

-- The effect of pass k + 1 on a tree with values u, whose file of pass k was read: the content `to` is the file of pass k + 1
-- of the tree, with values that are those of u in all earlier passes, and that meet each equation whose target is of pass k + 1
-- (after Jazayeri and Walter 1975).
pub record RanPass (version : Version) (g : Grammar) (m : Passes) (k : ℕ) (t : Tree) (u : Valuation) (to : List ℕ) : Type 0 where
  pub values : Valuation
  pub file : IsFileOfTree version g m (suc k) t values to
  pub kept : Same (λ p. p < suc k) g m t u values
  pub solved : Solves (OfPass m (suc k)) g t values

-- Pass k + 1 ran from one content to another: if the first content is the file of pass k of a tree and its
-- values, the pass had its effect on these, for every tree and all values (this project's).
abbrev pub RunsPass : Version → Grammar → Passes → ℕ → (from to : List ℕ) → Type 0
RunsPass version g m k from to = (t : Tree) (u : Valuation) → IsTreeOf g t → IsFileOfTree version g m k t u from
    → RanPass version g m k t u to

-- Passes from `first` to `last` ran through a tree that had the values u. `newest` is the file of the last pass. If a pass ran,
-- `previous` is the file of the pass before the last, with the same values (this project's).
pub record HasRun (version : Version) (g : Grammar) (m : Passes) (t : Tree) (u : Valuation) (first last : ℕ)
    (newest previous : List ℕ) : Type 0 where
  pub values : Valuation
  pub ran : RanThrough g m t u first (suc last) values
  pub file : IsFileOfTree version g m last t values newest
  pub other : (k : ℕ) → first ≤ last → last ≡ suc k → IsFileOfTree version g m k t values previous

-- The passes after pass k ran, up to the last: if `start` is the file of pass k of a tree and its values, they
-- ran through this tree and left these two contents, for every tree and all values (this project's).
abbrev pub RunsPasses : Version → Grammar → Passes → (k last : ℕ) → (start newest previous : List ℕ) → Type 0
RunsPasses version g m k last start newest previous = (t : Tree) (u : Valuation) → IsTreeOf g t
    → IsFileOfTree version g m k t u start → HasRun version g m t u (suc k) last newest previous
