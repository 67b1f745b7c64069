-- What the laws state.
use Rattle.std.specs.Prelude.{ℕ, ◌≡◌, List, [], None, Some, slice_get}
use Rattle.ag_value.specs.operations.Arguments.{fault_of}
use Rattle.ag_grammar.specs.grammars.Accepted.{IsAccepted}
use Rattle.ag_grammar.specs.grammars.AttributeGrammar.{Grammar}
use Rattle.ag_grammar.specs.grammars.Passes.{IsLegal, Passes}
use Rattle.ag_grammar.specs.grammars.Solution.{AnyRule, Solves, Valuation}
use Rattle.ag_grammar.specs.grammars.Tree.{IsTreeOf, Tree}
use Rattle.origins.specs.Causes.{HasCause, HoldsAt, values_at}
use Rattle.origins.specs.Origins.{HasNoOrigin, HasOrigin}

-- If an error of a tree has a cause, the tree has an origin.
abbrev pub CausesHaveOrigins : Type 0
CausesHaveOrigins = (g : Grammar) (t : Tree) (v : Valuation) (path : List ℕ) (a : ℕ) → HasCause g t v path a
    → (origin : List ℕ) × HasOrigin g origin (Some t) v

-- In an accepted grammar with a legal assignment, if a tree has no origin, no value of a solution of the tree is an error.
abbrev pub NoneIsClean : Type 0
NoneIsClean = (g : Grammar) (m : Passes) (t : Tree) (v : Valuation) → IsAccepted g → IsLegal g m → IsTreeOf g t
    → Solves AnyRule g t v → HasNoOrigin g t v
    → HoldsAt (λ path ps. (a p : ℕ) → slice_get ps a ≡ Some p → fault_of (values_at v path [] a) ≡ None) g m t []
