-- What several files of these proofs use.
pub use Rattle.std.proofs.Common.{Bool, IsAscii, IsTrue, List, None, Option, Some, [], ap, ap₂, arith, bytes_eq, cond, drop}
pub use Rattle.std.proofs.Common.{false, get_or, inl, inr, length, map, nat_eq, nat_lt, pos, refl, slice_get, slice_index_or}
pub use Rattle.std.proofs.Common.{subst, suc, sym, true, zero, ℕ, ℤ, ◌%◌, ◌&&◌, ◌++◌, ◌+ℤ◌, ◌+◌, ◌-◌, ◌<◌, ◌||◌, ◌↔◌, ◌∙◌, ◌∷◌}
pub use Rattle.std.proofs.Common.{◌≡◌, ◌≤◌, ◌⊎◌}
pub use Rattle.std.proofs.lemmas.Bool.{and_parts, cases_lt, eq-eqb, eqb-true, lt-ltb, ltb-true, ne_eqb, or_cases, or_left}
pub use Rattle.std.proofs.lemmas.Bool.{or_right}
pub use Rattle.std.proofs.lemmas.Slice.Eq.{bytes_eq-Decides}
pub use Rattle.ag_grammar.specs.Lists.{AreRelated, Differ, DifferIn, Each}
pub use Rattle.ag_grammar.specs.declared.grammar.Item.{Item}
pub use Rattle.ag_grammar.specs.declared.grammar.Item.TheVariants as item
pub use Rattle.ag_grammar.specs.declared.grammar.Production.{Production}
pub use Rattle.ag_grammar.specs.declared.grammar.Rule.{Rule}
pub use Rattle.ag_grammar.specs.declared.grammar.Target.{Target}
pub use Rattle.ag_grammar.specs.declared.grammar.Terminal.TheVariants.{Class, Literal}
pub use Rattle.ag_grammar.specs.declared.syntax.node.Node.{Node, roll-Node}
pub use Rattle.ag_grammar.specs.declared.syntax.node.Node.TheFolds.{fold-roll-Node, ind-Node, map-Node}
pub use Rattle.ag_grammar.specs.declared.syntax.node.Node.TheOpen.{Node-F}
pub use Rattle.ag_grammar.specs.declared.syntax.node.Node.TheVariants as node_of
pub use Rattle.ag_grammar.specs.declared.syntax.node.Operator.{Operator}
pub use Rattle.ag_grammar.specs.declared.syntax.node.Operator.TheVariants.{Add}
pub use Rattle.ag_grammar.specs.expressions.Trees.{all_below, all_hold, below_step, each_holds, is_within}
pub use Rattle.ag_grammar.specs.grammars.AttributeGrammar.{Grammar, HasKind, Inherited, IsArgument, IsProduction, IsRule, Kind}
pub use Rattle.ag_grammar.specs.grammars.AttributeGrammar.{RefersTo, Synthesized, attribute_names, defined_kind, item_at}
pub use Rattle.ag_grammar.specs.grammars.AttributeGrammar.{item_kinds, item_names, lex_name, places_of, stored_items}
pub use Rattle.ag_grammar.specs.grammars.AttributeGrammar.{symbol_kinds, used_kind}
pub use Rattle.ag_grammar.specs.grammars.Passes.{Direction, HasPass, IsBefore, IsLegal, IsLegalFor, LeftToRight, MayUse, Passes}
pub use Rattle.ag_grammar.specs.grammars.Passes.{RightToLeft, direction_of, item_passes, other}
pub use Rattle.ag_grammar.specs.grammars.Raw.{raw_stored}
pub use Rattle.ag_grammar.specs.grammars.Solution.{AnyPass, AnyRule, AtEachNode, AtEachNodeOf, Holds, IsTranslation, IsWellOn}
pub use Rattle.ag_grammar.specs.grammars.Solution.{NoRule, OfPass, RulesHold, Same, SameAt, Solves, SolvesAll, Supplies}
pub use Rattle.ag_grammar.specs.grammars.Solution.{Valuation, WellAt, at, children, left_passes, rest}
pub use Rattle.ag_grammar.specs.grammars.Tree.{Fits, FitsAll, Forest, IsTokenText, IsTreeOf, Tree, leaf, more, node, none}
pub use Rattle.ag_grammar.specs.values.Operators.{operation_result}
pub use Rattle.ag_value.specs.Spelling.{spelling_of}
pub use Rattle.ag_value.specs.declared.value.Value.{Num, Text, Value, out-Value, roll-Value, roll-out-Value}
pub use Rattle.ag_value.specs.declared.value.Value.TheVariants.{outs-Fault, outs-List, outs-Num, outs-Table, outs-Text}
pub use Rattle.ag_value.specs.declared.value.Value.TheVariants.{rolls-Fault, rolls-Table}
pub use Rattle.ag_value.specs.operations.Fitting.{fit}
pub use Rattle.ag_value.specs.operations.Numbers.{number_value}
