-- When an error arises in the rule of a node, rather than being passed on by an argument of the rule. In these definitions r is a
-- rule, o an argument (a place, and the number of an attribute there), q a production, and v a value. In `arises`, e is an
-- expression, and `env` has the values of its occurrences. In the other definitions, e is a table. All of this is this project's.
use Rattle.std.specs.Prelude.{ℕ, Bool, false, nat_eq, pos, Option, Some, None, slice_get, if◌then◌else◌}
use Rattle.std.specs.List.{count_by}
use Rattle.ag_value.specs.Spelling.{number_of}
use Rattle.ag_value.specs.declared.value.ErrorCode.{ErrorCode}
use Rattle.ag_value.specs.declared.value.ErrorCode.TheVariants.{Divide, Overflow}
use Rattle.ag_value.specs.declared.value.Value.{Value, Num}
use Rattle.ag_value.specs.declared.value.Value.TheVariants as value
use Rattle.ag_grammar.specs.declared.grammar.Production.{Production}
use Rattle.ag_grammar.specs.declared.grammar.Rule.{Rule}
use Rattle.ag_grammar.specs.declared.grammar.Target.{Target}
use Rattle.ag_grammar.specs.declared.syntax.node.Node.{Node}
use Rattle.ag_grammar.specs.expressions.Evaluation.{value_of}
use Rattle.ag_value.specs.operations.Arguments.{fault_of}

-- The values at the places of a node, by place and by number of the attribute there. Place 0 is the node itself, 1, 2, .. are
-- its children.
abbrev pub Table : Type 0
Table = ℕ → ℕ → Value

-- The value `first` in the place of the error overflow (number 1), and `other` in that of every other error. The third argument
-- is the error code of the value v, or None if v is not an error: then v stays.
abbrev pub exchanged_to : Value → Value → Option ErrorCode → Value → Value
exchanged_to first other None v = v
exchanged_to first other (Some c) v = if nat_eq (number_of c) 1 then first else other

-- Another error in the place of an error: divide for overflow, and overflow for every other. A value that is not an error stays.
abbrev pub exchanged : Value → Value
exchanged v = exchanged_to (value.Fault Divide) (value.Fault Overflow) (fault_of v) v

-- a test: both are an error, and the same one (None: not an error)
abbrev pub is_same_error : Option ErrorCode → Option ErrorCode → Bool
is_same_error None d = false
is_same_error (Some c) None = false
is_same_error (Some c) (Some d) = nat_eq (number_of c) (number_of d)

-- A test: an error arises in an expression. The expression's value is an error, and would be the same error if every error among
-- the values of its occurrences were exchanged. So this error comes from none of the occurrences.
unfoldable pub arises : Node → (ℕ → Value) → Bool
arises e env = is_same_error (fault_of (value_of e env)) (fault_of (value_of e (λ k. exchanged (env k))))

-- The value of the argument that an occurrence refers to. The value is 0 if the occurrence has no argument; a rule of an accepted
-- grammar has no such occurrence.
abbrev pub value_at : Table → Option Target → Value
value_at e None = Num (pos 0)
value_at e (Some o) = e o.place o.attr

-- the environment in which each occurrence of a rule has the value of the argument that it refers to
abbrev pub environment : Rule → Table → ℕ → Value
environment r e k = value_at e (slice_get r.args k)

-- a test: an error arises in a rule of a node with these values
abbrev pub is_arising : Table → Rule → Bool
is_arising e r = arises r.expr.tree (environment r e)

-- the number of rules of a production in which an error arises
abbrev pub arising_count : Option Production → Table → ℕ
arising_count None e = 0
arising_count (Some q) e = count_by (is_arising e) q.rules
