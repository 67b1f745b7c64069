-- What several files of these proofs use.
pub use Rattle.std.proofs.Common.{Bool, Bor, List, None, Option, Some, [], ap, append_assoc, arith, cond, drop, false}
pub use Rattle.std.proofs.Common.{get_or, inl, inr, length, map, refl, reverse, rules, slice_get, suc, sym, take, true}
pub use Rattle.std.proofs.Common.{zero, add-one, add-zero, zero-add, ℕ, ◌&&◌, ◌*◌, ◌++◌, ◌+◌, ◌-◌, ◌<◌, ◌∙◌, ◌∷◌, ◌≡◌, ◌≤◌, ◌⊎◌}
pub use Rattle.std.proofs.lemmas.List.{append-nil, length-append, map-append, reverse-append, reverse-reverse}
pub use Rattle.std.proofs.lemmas.Option.{IfSome_then, slice_get-get_or, slice_get-map, slice_get_read, slice_get_within}
pub use Rattle.std.specs.Prelude.{Err, IfNone, IfSome, Ok, Result, nat_eq}
pub use Rattle.std.specs.Result.{OkIff, result_ok}
pub use Rattle.ag_grammar.specs.Lists.{DifferIn, Has}
pub use Rattle.ag_grammar.specs.declared.grammar.Item.{Item}
pub use Rattle.ag_grammar.specs.declared.grammar.Item.TheVariants as item
pub use Rattle.ag_grammar.specs.declared.grammar.Production.{Production}
pub use Rattle.ag_grammar.specs.declared.grammar.Rule.{Rule}
pub use Rattle.ag_grammar.specs.declared.grammar.Target.{Target}
pub use Rattle.ag_grammar.specs.declared.limits.TheConstants.{MAX_NODES}
pub use Rattle.ag_grammar.specs.expressions.Evaluation.{value_of}
pub use Rattle.ag_grammar.specs.grammars.Accepted.{IsAccepted}
pub use Rattle.ag_grammar.specs.grammars.AttributeGrammar.{Grammar, HasKind, Inherited, IsArgument, IsProduction, IsRule, Kind}
pub use Rattle.ag_grammar.specs.grammars.AttributeGrammar.{Synthesized, defined_kind, item_at, item_kinds, stored_items}
pub use Rattle.ag_grammar.specs.grammars.AttributeGrammar.{symbol_kinds, used_kind}
pub use Rattle.ag_grammar.specs.grammars.Passes.{IsLegal, Passes}
pub use Rattle.ag_grammar.specs.grammars.Running.{IsLastPass}
pub use Rattle.ag_grammar.specs.grammars.Solution.{AnyRule, NoRule, RulesHold, Solves, Valuation, WellAt}
pub use Rattle.ag_grammar.specs.grammars.Solution.{at, below, children, left_passes, rest}
pub use Rattle.ag_grammar.specs.grammars.Tree.{Fits, FitsAll, Forest, IsTreeOf, Tree, leaf, max_nodes, more, node, node_count}
pub use Rattle.ag_grammar.specs.grammars.Tree.{node_counts, none}
pub use Rattle.ag_value.specs.declared.value.Value.{Value}
pub use Rattle.ag_value.specs.operations.Arguments.{fault_of}
pub use Rattle.causes.specs.Chains.{DoesNext, DoesNextAt, Follows, GoesTo, HasNoError, IsCause, IsChain}
pub use Rattle.causes.specs.Chains.{IsNumberFor, IsPassedFrom, Reading, itself, longer, places_of}
pub use Rattle.causes.specs.Indexed.{HasNoChildAt, IsNumberAt, Leads, LeadsNowhere, Stops, StopsAfter, in_file}
pub use Rattle.causes.specs.Laws.{IsInTree, in_tree}
pub use Rattle.causes.specs.Rules.{HasRule, IsNodeAt}
pub use Rattle.causes.specs.declared.next_rule.Next.{Next}
pub use Rattle.causes.specs.declared.next_rule.Next.TheVariants as rule_does
pub use Rattle.origins.specs.Arising.{Table, environment, is_arising, value_at}
pub use Rattle.origins.specs.Causes.{AnswersSource, HasCause, here, passed, place_path, tree_at, values_at}
pub use Rattle.origins.specs.Origins.{child, child_of}
pub use Rattle.origins.specs.Records.{IsNode}
pub use Rattle.origins.specs.Rows.{table_of}
pub use Rattle.tree_index.specs.declared.index.TreeIndex.{TreeIndex}
pub use Rattle.treefile.specs.devices.Device.{LeavesContent, Persists, WhenHonest}
pub use Rattle.treefile.specs.records.TreeFile.{version_two}
