-- Examples of certificates and of passes that are made, for the sample grammars of ag_grammar and for the grammar `rightward`.
-- In `rightward` an attribute of the second child depends on the first child, so pass 2, from left to right, is needed:
--   R = A A { $0.out = $1.s; $1.i = 0; $2.i = $1.s; }
--   A = "x" { $0.s = $0.i + 1; }
use Rattle.std.specs.Prelude.{ℕ, zero, suc, List, [], ◌∷◌, None}
use Rattle.ag_grammar.specs.grammars.AttributeGrammar.{Grammar}
use Rattle.ag_grammar.specs.grammars.Passes.{Passes}
use Rattle.ag_grammar.specs.grammars.Sample.{attribute, copy_rule, zero_rule, rule_out, s_name, grammar_of}
use Rattle.passassign.specs.declared.stuck.Strike.{Strike}
use Rattle.passassign.specs.declared.stuck.Stuck.{Stuck}
use Rattle.passassign.specs.Least.{Partial}

-- a strike of an attribute of a symbol, by argument 0 of a rule of a production
abbrev pub strike : (symbol attr production rule : ℕ) → Strike
strike s a p r = record { symbol = s; attr = a; production = p; rule = r; arg = 0 }

-- A's `i` is struck by this rule of this production, A's `s` by `i`, and R's `out` by `s`. R is symbol 0, with `out` as attribute
-- 0; A is symbol 1, with `s` as attribute 0 and `i` as attribute 1.
abbrev pub strikes_by : (production rule : ℕ) → List Strike
strikes_by p r = strike 1 1 p r ∷ strike 1 0 1 0 ∷ strike 0 0 0 0 ∷ []

-- The attributes R.out, A.s and A.i of the grammar `both_ways`: in a pass from right to left A.i is struck by the second
-- production of R, and in one from left to right by the first.
abbrev pub both_ways_stuck : Stuck
both_ways_stuck = record { set = (0, 0) ∷ (1, 0) ∷ (1, 1) ∷ []; odd = strikes_by 2 2; even = strikes_by 0 1 }

-- the same with the two lists exchanged
abbrev pub exchanged : Stuck
exchanged = record both_ways_stuck { odd = strikes_by 0 1; even = strikes_by 2 2 }

-- the grammar above, with the symbols of `sample`
abbrev pub rightward : Grammar
rightward = grammar_of (rule_out ∷ zero_rule (attribute 1 1) ∷ copy_rule (attribute 2 1) 1 s_name 0 ∷ [])

-- no attribute has a pass
abbrev pub nothing_yet : Partial
nothing_yet s a = None

-- all attributes have pass 3
abbrev pub third_passes : Passes
third_passes zero = 3 ∷ []
third_passes (suc zero) = 3 ∷ 3 ∷ []
third_passes (suc (suc s)) = []
