-- The chain of rules that passed an error on, from one rule to that in which the error arises. In these definitions `rules` are
-- the rules of a node's production, e has the values at the node's places (`Table` of `origins`), and `target` is the attribute
-- that a rule computes. g is a grammar, q a production and p its number, and vs are the values of a record. All of this is this
-- project's.
use Rattle.std.specs.Prelude.{ℕ, suc, ◌≡◌, ◌<◌, ◌⊎◌, List, [], ◌∷◌, ◌++◌, map, Some, None, Ok, slice_get, true}
use Rattle.ag_value.specs.declared.value.Value.{Value}
use Rattle.ag_grammar.specs.declared.grammar.Production.{Production}
use Rattle.ag_grammar.specs.declared.grammar.Rule.{Rule}
use Rattle.ag_grammar.specs.declared.grammar.Target.{Target}
use Rattle.ag_grammar.specs.grammars.AttributeGrammar.{Grammar, IsProduction}
use Rattle.treefile.specs.records.TreeFile.{version_two}
use Rattle.treefile.specs.framing.Ending.{body_before}
use Rattle.ag_grammar.specs.expressions.Evaluation.{value_of}
use Rattle.ag_value.specs.operations.Arguments.{fault_of}
use Rattle.origins.specs.Arising.{Table, environment, is_arising}
use Rattle.origins.specs.Causes.{IsSource}
use Rattle.origins.specs.Records.{IsNode}
use Rattle.origins.specs.Rows.{table_of}
use Rattle.causes.specs.declared.next_rule.Next.{Next}
use Rattle.causes.specs.declared.next_rule.Next.TheVariants as rule_does
use Rattle.causes.specs.declared.chain.PathNode.{PathNode}
use Rattle.causes.specs.declared.chain.Step.{Step}
use Rattle.causes.specs.declared.chain.Step.TheVariants as step

-- The rule with this number, from 0, is one for the target.
pub record IsNumberFor (rules : List Rule) (target : Target) (number : ℕ) : Type 0 where
  pub rule : Rule
  pub there : slice_get rules number ≡ Some rule
  pub gives : rule.target ≡ target

-- A rule for a target passes on the error of an argument, as `IsSource` of `origins` defines it.
pub record PassesOn (rules : List Rule) (e : Table) (target argument : Target) : Type 0 where
  pub number : ℕ
  pub rule : Rule
  pub there : slice_get rules number ≡ Some rule
  pub gives : rule.target ≡ target
  pub index : ℕ
  pub takes : slice_get rule.args index ≡ Some argument
  pub source : IsSource rule e index

-- The rule with this number is one for the target, and an error arises in it.
pub record Arises (rules : List Rule) (e : Table) (target : Target) (number : ℕ) : Type 0 where
  pub rule : Rule
  pub there : slice_get rules number ≡ Some rule
  pub gives : rule.target ≡ target
  pub arises : is_arising e rule ≡ true

-- None of the first 65,536 rules is for the target and has an error as its value.
abbrev pub HasNoError : List Rule → Table → Target → Type 0
HasNoError rules e target = (number : ℕ) (rule : Rule) → number < 65536 → slice_get rules number ≡ Some rule
    → rule.target ≡ target
    → fault_of (value_of rule.expr.tree (environment rule e)) ≡ None

-- `HasNoError` at a node of production number p, with the values vs of the node's record
abbrev pub HasNoErrorAt : Grammar → ℕ → List Value → Target → Type 0
HasNoErrorAt g p vs target = (q : Production) → IsProduction g p q → HasNoError q.rules (table_of g q vs) target

-- A rule for the target does this: it passes on the error of an argument, or the error arises in it.
abbrev pub DoesNext : List Rule → Table → Target → Next → Type 0
DoesNext rules e target (rule_does.Passes argument) = PassesOn rules e target argument
DoesNext rules e target (rule_does.Arises number) = Arises rules e target number

-- `DoesNext` at a node of production number p, with the values vs of the node's record
pub record DoesNextAt (g : Grammar) (p : ℕ) (vs : List Value) (target : Target) (does : Next) : Type 0 where
  pub production : Production
  pub there : IsProduction g p production
  pub next : DoesNext production.rules (table_of g production vs) target does

-- A *reading* R says what rules do. `R places target does` means: at the node at the end of these places from the root, the rule
-- for this target does what `does` says. A reading is that of a content (`in_content`, and `in_file` of `Indexed.antt`) or of a
-- tree (`in_tree` of `Laws.antt`).
abbrev pub Reading : Type 1
Reading = List ℕ → Target → Next → Type 0

-- A content has a record of a node. With the values of this record, the rule for a target of the node's production does this.
pub record IsInRecord (g : Grammar) (content : List ℕ) (target : Target) (does : Next) : Type 0 where
  pub end : ℕ
  pub body : List ℕ
  pub there : body_before version_two content end ≡ Ok body
  pub production : ℕ
  pub values : List Value
  pub is_node : IsNode g body production values
  pub next : DoesNextAt g production values target does

-- The reading of a content. It doesn't say which of the content's records is that of the node at the end of the places.
abbrev pub in_content : Grammar → List ℕ → Reading
in_content g content places target does = IsInRecord g content target does

-- the places that lead from the root to the last of some nodes
abbrev pub places_of : List PathNode → List ℕ
places_of nodes = map (λ (n : PathNode). n.place) nodes

-- A rule at the node at the end of `places` has the argument. The rule that computes it is the one for `target` at the node at
-- the end of `there`. If the argument is an attribute of the node itself, that rule is at the parent, and its target has the
-- node's place at the parent. If the argument is an attribute of a child, that rule is at the child, and its target has place 0.
abbrev pub GoesTo : List ℕ → Target → List ℕ → Target → Type 0
GoesTo places argument there target =
    (target.attr ≡ argument.attr)
    × (((argument.place ≡ 0) × (places ≡ there ++ target.place ∷ []))
    ⊎ ((0 < argument.place) × (there ≡ places ++ argument.place ∷ []) × (target.place ≡ 0)))

-- The rule for `target` at the end of `places` passes on the error of the rule for `from` at the end of `there`.
pub record IsPassedFrom (R : Reading) (places : List ℕ) (target : Target) (there : List ℕ) (from : Target) : Type 0 where
  pub argument : Target
  pub passes : R places target (rule_does.Passes argument)
  pub goes : GoesTo places argument there from

-- What following the rule for `target` at the end of `places` leads to. `To`: the rule passes on the error of the rule for `from`
-- at the end of `there`. `Arises`: the error arises in the rule itself. Of `Nothing` nothing is claimed.
abbrev pub Follows : Reading → List ℕ → Target → List ℕ → Step → Type 0
Follows R places target there (step.To from) = IsPassedFrom R places target there from
Follows R places target there (step.Arises number) = (there ≡ places) × R places target (rule_does.Arises number)
Follows R places target there step.Nothing = Unit {0}

-- A chain in which n rules pass an error on, each the error of the next rule. It begins with the rule for `target` at the end of
-- `places`. The next two arguments are the places and the target of the rule to which it leads, the one after these n rules. Of
-- what this last rule does, nothing is claimed. If n is 0, the last rule is the first one.
pub data IsChain (R : Reading) (places : List ℕ) (target : Target) : List ℕ → Target → ℕ → Type 0 where
  itself : IsChain R places target places target 0
  longer : (there : List ℕ) (from : Target) (n : ℕ) (beyond : List ℕ) (next : Target) → IsChain R places target there from n
      → IsPassedFrom R there from beyond next → IsChain R places target beyond next (suc n)

-- The cause of the error that the rule for `target` computes at the node at the end of `places`. It is the rule with this number
-- at the node at the end of `there`, and its target is `from`. The error arises in this rule, and n rules passed the error on.
pub record IsCause (R : Reading) (places : List ℕ) (target : Target) (there : List ℕ) (number : ℕ) (n : ℕ) : Type 0 where
  pub from : Target
  pub chain : IsChain R places target there from n
  pub arises : R there from (rule_does.Arises number)
