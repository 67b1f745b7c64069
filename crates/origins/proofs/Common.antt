-- What several files of these proofs use.
pub use Rattle.std.proofs.Common.{All, Bool, List, None, Option, Some, [], add-zero, add_assoc, ap, arith, cond, false}
pub use Rattle.std.proofs.Common.{get_or, inl, inr, length, length-append, map, pos, refl, rules, slice_get, subst, suc}
pub use Rattle.std.proofs.Common.{sym, take, true, zero, zero-add, ℕ, ◌++◌, ◌+◌, ◌-◌, ◌<◌, ◌^◌, ◌∙◌, ◌∷◌, ◌≡◌, ◌≤◌, ◌⊎◌}
pub use Rattle.std.proofs.lemmas.Bool.{cases_Bool, cases_lt, eq-eqb, eqb-true, le-leb, le-ltb, lt-ltb, ltb-false}
pub use Rattle.std.proofs.lemmas.Bool.{ltb-true}
pub use Rattle.std.proofs.lemmas.List.Sums.{sum_by-cons}
pub use Rattle.std.proofs.lemmas.Option.{none-some, slice_get-get_or, slice_get_past, slice_get_within}
pub use Rattle.std.specs.List.{count_by, flat_map}
pub use Rattle.std.specs.Prelude.{nat_eq, nat_le, nat_lt}
pub use Rattle.ag_grammar.specs.Lists.{Each}
pub use Rattle.ag_grammar.specs.declared.direction.Direction.{Direction}
pub use Rattle.ag_grammar.specs.declared.direction.Direction.TheVariants.{LeftToRight, RightToLeft}
pub use Rattle.ag_grammar.specs.declared.grammar.Item.{Item}
pub use Rattle.ag_grammar.specs.declared.grammar.Item.TheVariants as item
pub use Rattle.ag_grammar.specs.declared.grammar.Production.{Production}
pub use Rattle.ag_grammar.specs.declared.grammar.Rule.{Rule}
pub use Rattle.ag_grammar.specs.declared.grammar.Target.{Target}
pub use Rattle.ag_grammar.specs.declared.grammar.Terminal.TheVariants.{Class, Literal}
pub use Rattle.ag_grammar.specs.declared.syntax.node.Node.{Node}
pub use Rattle.ag_grammar.specs.declared.syntax.node.Node.TheVariants as node_of
pub use Rattle.ag_grammar.specs.expressions.Evaluation.{value_in, value_of}
pub use Rattle.ag_grammar.specs.grammars.Accepted.{IsAccepted, IsComplete, IsNormal, IsStart}
pub use Rattle.ag_grammar.specs.grammars.AttributeGrammar.{Grammar, HasKind, Inherited, IsArgument, IsRule, Kind}
pub use Rattle.ag_grammar.specs.grammars.AttributeGrammar.{Synthesized, defined_kind, item_at, item_kinds, stored_items}
pub use Rattle.ag_grammar.specs.grammars.AttributeGrammar.{symbol_kinds, used_kind}
pub use Rattle.ag_grammar.specs.grammars.Passes.{IsLegal, Passes, direction_of}
pub use Rattle.ag_grammar.specs.grammars.Running.{IsLastPass}
pub use Rattle.ag_grammar.specs.grammars.Solution.{NoRule, SolvesAll, Valuation, at, below, children, left_passes, rest}
pub use Rattle.ag_grammar.specs.grammars.Tree.{Fits, FitsAll, Forest, IsTreeOf, Tree, leaf, more, node, none}
pub use Rattle.ag_value.specs.Spelling.{number_of, spelling_of}
pub use Rattle.ag_value.specs.Well.{IsWell}
pub use Rattle.ag_value.specs.declared.value.ErrorCode.{ErrorCode}
pub use Rattle.ag_value.specs.declared.value.ErrorCode.TheVariants.{Divide, Overflow}
pub use Rattle.ag_value.specs.declared.value.Value.{Num, Text, Value}
pub use Rattle.ag_value.specs.declared.value.Value.TheVariants.{outs-Fault, outs-Num, outs-Text}
pub use Rattle.ag_value.specs.declared.value.Value.TheVariants as value
pub use Rattle.ag_value.specs.operations.Arguments.{fault_of, has_fault}
pub use Rattle.origins.specs.Arising.{Table, environment, exchanged, is_arising, is_same_error, value_at}
pub use Rattle.origins.specs.Origins.{HasOrigin, arising_at, child_of}
pub use Rattle.origins.specs.Rows.{table_of}
pub use Rattle.treefile.specs.records.TreeFile.{body_from, body_of}
