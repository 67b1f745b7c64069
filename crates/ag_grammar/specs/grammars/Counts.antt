-- The number of rules at the nodes of a tree, in all and for each pass. All definitions are this project's.
use Rattle.std.specs.Prelude.{ℕ, zero, suc, ◌+◌, Bool, false, nat_eq, Option, Some, None, slice_get, length}
use Rattle.std.specs.List.{count_by}
use Rattle.ag_grammar.specs.declared.grammar.Production.{Production}
use Rattle.ag_grammar.specs.declared.grammar.Rule.{Rule}
use Rattle.ag_grammar.specs.declared.grammar.Target.{Target}
use Rattle.ag_grammar.specs.grammars.AttributeGrammar.{Grammar, item_at}
use Rattle.ag_grammar.specs.grammars.Passes.{Passes, item_passes}
use Rattle.ag_grammar.specs.grammars.Tree.{Tree, Forest, leaf, node, none, more}

-- the sum, over the nodes of a tree, of a function of their productions; a leaf counts 0
abbrev mutual
  pub total : (Option Production → ℕ) → Grammar → Tree → ℕ
  total f g (leaf c x) = 0
  total f g (node p ts) = f (slice_get g.productions p) + totals f g ts

  pub totals : (Option Production → ℕ) → Grammar → Forest → ℕ
  totals f g none = 0
  totals f g (more t ts) = total f g t + totals f g ts

-- the pass of the attribute at a place; `None` if the place or the attribute does not exist
abbrev pub pass_at : Passes → Production → Target → Option ℕ
pass_at m q o = slice_get (item_passes m (item_at q o.place)) o.attr

-- whether there is a pass and it is pass k
abbrev pub is_pass : ℕ → Option ℕ → Bool
is_pass k None = false
is_pass k (Some p) = nat_eq p k

-- whether the target of a rule belongs to pass k
abbrev pub is_of_pass : Passes → ℕ → Production → Rule → Bool
is_of_pass m k q r = is_pass k (pass_at m q r.target)

-- the number of rules of a production; 0 if there is no production
abbrev pub rule_count : Option Production → ℕ
rule_count None = 0
rule_count (Some q) = length q.rules

-- the number of rules of a production whose target belongs to pass k; 0 if there is no production
abbrev pub pass_rule_count : Passes → ℕ → Option Production → ℕ
pass_rule_count m k None = 0
pass_rule_count m k (Some q) = count_by (is_of_pass m k q) q.rules

-- The number of rules of a tree: each node has the rules of its production.
abbrev pub rules_of : Grammar → Tree → ℕ
rules_of = total rule_count

-- The number of rules of a tree whose target belongs to pass k.
abbrev pub rules_of_pass : Passes → ℕ → Grammar → Tree → ℕ
rules_of_pass m k = total (pass_rule_count m k)

-- the sum of a function over the `count` passes after `first`
abbrev pub sum_of_passes : (ℕ → ℕ) → (first count : ℕ) → ℕ
sum_of_passes f first zero = 0
sum_of_passes f first (suc n) = sum_of_passes f first n + f (suc (first + n))
