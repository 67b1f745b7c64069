-- Statements of the laws of `src/grammar_laws.rt`. In all of them g is a grammar, m an assignment of passes, t a tree, and u, v
-- and w are values of its attributes.
use Rattle.std.specs.Prelude.{ℕ, suc, ◌≡◌, ◌<◌, ◌≤◌, ◌↔◌}
use Rattle.ag_value.specs.declared.value.Value.{Value}
use Rattle.ag_grammar.specs.Lists.{Each}
use Rattle.ag_grammar.specs.declared.grammar.Item.TheVariants as item
use Rattle.ag_grammar.specs.declared.grammar.Item.{Item}
use Rattle.ag_grammar.specs.grammars.AttributeGrammar.{Grammar}
use Rattle.ag_grammar.specs.grammars.Accepted.{IsStart, IsComplete, IsNormal, IsProductive, IsAccepted}
use Rattle.ag_grammar.specs.grammars.Tree.{Tree, IsTreeOf, Fits}
use Rattle.ag_grammar.specs.grammars.Passes.{Passes, HasPass, IsLegalFor, IsLegal}
use Rattle.ag_grammar.specs.grammars.Solution.{Valuation, Solves, AnyRule, NoRule, OfPass, Same, AnyPass, IsTranslation}
use Rattle.ag_grammar.specs.grammars.Running.{FromPass, IsLastPass, IsTheSolution, RanThrough}
use Rattle.ag_grammar.specs.grammars.Counts.{rules_of, rules_of_pass, sum_of_passes}

-- A symbol derives a list of terminals if and only if it has a tree.
abbrev pub ProductiveByTrees : Type 0
ProductiveByTrees = (g : Grammar) (s : ℕ) → IsProductive g s ↔ ((t : Tree) × Fits g (item.Symbol s) t)

-- Any two solutions on a tree are the same, if each production is complete and normal, the start symbol has
-- `out` and no inherited attribute, and there is a legal assignment.
abbrev pub OneSolution : Type 0
OneSolution = (g : Grammar) (m : Passes) (t : Tree) (v w : Valuation) → IsStart g → Each (IsComplete g) g.productions
    → Each (IsNormal g) g.productions → IsLegal g m → IsTreeOf g t → Solves AnyRule g t v → Solves AnyRule g t w
    → Same AnyPass g m t v w

-- Hence a tree of an accepted grammar with a legal assignment has at most one translation.
abbrev pub OneTranslation : Type 0
OneTranslation = (g : Grammar) (m : Passes) (t : Tree) (v w : Valuation) (x y : Value) → IsAccepted g → IsLegal g m → IsTreeOf g t
    → Solves AnyRule g t v → Solves AnyRule g t w → IsTranslation g v x → IsTranslation g w y → x ≡ y

-- If the rules use only what the assignment allows, the equations of pass k stay true if the values v are replaced by values w
-- that are the same in all passes up to some pass j, which is k or a later one. The tree may be that of any item x.
abbrev pub EquationsKept : Type 0
EquationsKept = (g : Grammar) (m : Passes) (k j : ℕ) (x : Item) (t : Tree) (v w : Valuation)
    → Each (IsLegalFor (HasPass m)) g.productions → k ≤ j → Fits g x t → Same (λ p. p ≤ j) g m t v w → Solves (OfPass m k) g t v
    → Solves (OfPass m k) g t w

-- Values that satisfy the equations of every pass are a solution, if the target of each rule has a pass.
abbrev pub PassesSolve : Type 0
PassesSolve = (g : Grammar) (m : Passes) (t : Tree) (v : Valuation)
    → Each (λ q. Each (λ r. (k : ℕ) × HasPass m q r.target k) q.rules) g.productions → ((k : ℕ) → Solves (OfPass m k) g t v)
    → Solves AnyRule g t v

-- Before any pass has run, the values are those at the beginning: any values u that give each leaf its text.
abbrev pub RunBegins : Type 0
RunBegins = (g : Grammar) (m : Passes) (t : Tree) (u : Valuation) (first : ℕ) → Solves NoRule g t u
    → RanThrough g m t u first first u

-- One more pass, with the number `next`, has run if it keeps the values of the passes before it and satisfies its own equations.
-- The values are u before pass `first`, w before pass `next`, and v after it. The tree may be that of any item x.
abbrev pub RunGoesOn : Type 0
RunGoesOn = (g : Grammar) (m : Passes) (x : Item) (t : Tree) (u w v : Valuation) (first next : ℕ) → IsLegal g m → Fits g x t
    → first ≤ next → RanThrough g m t u first next w → Same (λ p. p < next) g m t w v → Solves (OfPass m next) g t v
    → RanThrough g m t u first (suc next) v

-- After the last pass, each equation is satisfied whose target belongs to pass `first` or to a later one.
abbrev pub RunSolvesRest : Type 0
RunSolvesRest = (g : Grammar) (m : Passes) (t : Tree) (u w : Valuation) (first last : ℕ) → IsLastPass last m
    → RanThrough g m t u first (suc last) w → Solves (FromPass m first) g t w

-- If the passes from pass 1 to the last one ran, the values are the solution, for an accepted grammar with a legal
-- assignment.
abbrev pub RunIsTheSolution : Type 0
RunIsTheSolution = (g : Grammar) (m : Passes) (t : Tree) (u w : Valuation) (last : ℕ) → IsAccepted g → IsLegal g m
    → IsLastPass last m → IsTreeOf g t → RanThrough g m t u 1 (suc last) w → IsTheSolution g m t w

-- For an accepted grammar with a legal assignment, the numbers of rules of the passes up to the last one add up to the
-- number of rules of a tree, since each target belongs to exactly one of these passes.
abbrev pub PassesHaveAllRules : Type 0
PassesHaveAllRules = (g : Grammar) (m : Passes) (t : Tree) (last : ℕ) → IsAccepted g → IsLegal g m → IsLastPass last m
    → sum_of_passes (λ k. rules_of_pass m k g t) 0 last ≡ rules_of g t
