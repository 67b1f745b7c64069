-- What several files of these proofs use.
pub use Rattle.std.proofs.Common.{All, AllPairs, Bool, Err, IfOk, List, None, Ok, Option, Result, Some, [], ap}
pub use Rattle.std.proofs.Common.{append-nil, append_assoc, arith, bytes_eq, cond, drop, false, filter, flat_map, fold, get_or}
pub use Rattle.std.proofs.Common.{if◌then◌else◌, inl, inr, is_some, length, length-append, map, nat_eq, nat_le, nat_lt, not}
pub use Rattle.std.proofs.Common.{position, refl, slice_get, subst, suc, sym, take, true, unwrap_or, zero, ℕ, ◌&&◌, ◌++◌, ◌+◌}
pub use Rattle.std.proofs.Common.{◌-◌, ◌<◌, ◌||◌, ◌↔◌, ◌∙◌, ◌∷◌, ◌≡◌, ◌≢◌, ◌≤◌, ◌⊎◌}
pub use Rattle.std.proofs.lemmas.Bool.{and_parts, cases_eq, cases_lt, eq-eqb, eqb-true, false≢true, le-leb, leb-true, lt-ltb}
pub use Rattle.std.proofs.lemmas.Bool.{ltb-true}
pub use Rattle.std.proofs.lemmas.Bool.Decides.{nat_tests}
pub use Rattle.std.proofs.lemmas.List.{get_or-map, length-map, map-append, map-id, map_push}
pub use Rattle.std.proofs.lemmas.List.Elements.{All-cons, All-nil, All-push}
pub use Rattle.std.proofs.lemmas.List.Folds.{list_any-append, list_any_at, list_any_none}
pub use Rattle.std.proofs.lemmas.List.Sums.{fold-append, fold_more, passes_at_first, prefix_len-le-length}
pub use Rattle.std.proofs.lemmas.Option.{get_or_from_slice_get, slice_get-get_or, slice_get_within}
pub use Rattle.std.proofs.lemmas.Slice.Eq.{bytes_eq-Decides}
pub use Rattle.std.specs.Borrow.{Bor}
pub use Rattle.std.specs.List.{filter_map, list_all, list_any, range_with_len}
pub use Rattle.std.specs.Option.{option_or}
pub use Rattle.ag_grammar.specs.Lists.{AreRelated, Differ, DifferIn, Each, Has}
pub use Rattle.ag_grammar.specs.declared.grammar.Item.{Item}
pub use Rattle.ag_grammar.specs.declared.grammar.Item.TheVariants as item
pub use Rattle.ag_grammar.specs.declared.grammar.Production.{Production}
pub use Rattle.ag_grammar.specs.declared.grammar.Symbol.{Symbol}
pub use Rattle.ag_grammar.specs.declared.grammar.Target.{Target}
pub use Rattle.ag_grammar.specs.declared.grammar.Terminal.TheVariants.{Class, Literal}
pub use Rattle.ag_grammar.specs.declared.raw.Named.{Named}
pub use Rattle.ag_grammar.specs.declared.raw.RawGrammar.{RawGrammar}
pub use Rattle.ag_grammar.specs.declared.raw.RawItem.{RawItem}
pub use Rattle.ag_grammar.specs.declared.raw.RawItem.TheVariants as raw_item
pub use Rattle.ag_grammar.specs.declared.raw.RawProduction.{RawProduction}
pub use Rattle.ag_grammar.specs.declared.raw.RawRule.{RawRule}
pub use Rattle.ag_grammar.specs.declared.raw.RawSymbol.{RawSymbol}
pub use Rattle.ag_grammar.specs.declared.syntax.occurrence.Occ.{Occ}
pub use Rattle.ag_grammar.specs.expressions.Trees.{is_below}
pub use Rattle.ag_grammar.specs.grammars.AttributeGrammar.{Grammar, HasKind, Inherited, IsRule, Kind, RefersTo, Synthesized}
pub use Rattle.ag_grammar.specs.grammars.AttributeGrammar.{attribute_names, defined_kind, item_at, item_kinds, item_names}
pub use Rattle.ag_grammar.specs.grammars.AttributeGrammar.{stored_items, symbol_kinds, symbol_names as names_of_symbol, used_kind}
pub use Rattle.ag_grammar.specs.grammars.Raw.{texts_of}
pub use Rattle.closure.proofs.Positions.{at_mapped, get_push_cases, get_push_end, mapped_at}
pub use Rattle.closure.specs.Clauses.{Clauses, IsClauseBelow}
pub use Rattle.closure.specs.Edges.{IsEdgeBelow, clause_of_edge}
pub use Rattle.closure.specs.Following.{Follows, is_marked, seed}
pub use Rattle.normalform.specs.declared.fault.NormalFault.{NormalFault}
pub use Rattle.normalform.specs.declared.fault.NormalFault.TheVariants as fault
pub use Rattle.normalform.specs.faults.Clauses.{body_of, clause_of, clauses_of, edge, edges_of, reach_edges}
pub use Rattle.normalform.specs.faults.Faults.{AreAll, AreListedIn, Check, HasNoFault, IsFirstFault, IsFirstNot, IsListed}
pub use Rattle.normalform.specs.declared.faults.reference_checks.RuleCheck.TheVariants as rule_check
pub use Rattle.normalform.specs.declared.faults.resolved.PlacedItem.{PlacedItem}
pub use Rattle.normalform.specs.declared.faults.resolved.PlacedItem.TheVariants as placed_item
pub use Rattle.normalform.specs.declared.faults.resolved.Reference.{Reference}
pub use Rattle.normalform.specs.declared.faults.resolved.ResolvedProduction.{ResolvedProduction}
pub use Rattle.normalform.specs.declared.faults.resolved.Role.{Role}
pub use Rattle.normalform.specs.declared.faults.resolved.Role.TheVariants as role
pub use Rattle.normalform.specs.faults.Faults.{IsReadable, IsReadableItem, IsSmall, IsTrueOf, checks_along, defined_at}
pub use Rattle.normalform.specs.faults.Faults.{doubled_checks, doubled_in, doubled_names, doubled_rules, few_attributes}
pub use Rattle.normalform.specs.faults.Faults.{few_children, few_items, first_wrong, holds, in_names, in_productive, in_reached}
pub use Rattle.normalform.specs.faults.Faults.{in_rules, is_defined, is_short, is_start, is_there, is_unknown, is_used}
pub use Rattle.normalform.specs.faults.Faults.{later_kinds, limit_checks, literal_limits, missing_at, missing_check}
pub use Rattle.normalform.specs.faults.Faults.{missing_checks, missing_in, naming_checks, new_check, new_target, next_index}
pub use Rattle.normalform.specs.faults.Faults.{numbers_defined, place_checks, production_limits, reference_check}
pub use Rattle.normalform.specs.faults.Faults.{reference_checks, rule_kinds, same_target, start_checks, symbol_checks}
pub use Rattle.normalform.specs.faults.Faults.{symbol_limits, targets_of, unknown_checks, unknown_in, with_name, with_reference}
pub use Rattle.normalform.specs.faults.Faults.{with_symbol, with_target}
pub use Rattle.normalform.specs.faults.Readable.{is_separator, readable_in, readable_item}
pub use Rattle.normalform.specs.faults.Resolved.{item_placed, item_role, kind_at, place_of, places_of, reference_of}
pub use Rattle.normalform.specs.faults.Resolved.{references_of, resolved_production, resolved_productions, role_of, symbol_role}
pub use Rattle.normalform.specs.numbers.Numbers.{classes_of, declared, declared_names, is_class, item_of, literals_of, names_at}
pub use Rattle.normalform.specs.numbers.Numbers.{number_in, numbered, placed, production_of, rule_of, stored_of, symbol_of}
pub use Rattle.normalform.specs.numbers.Numbers.{target_of, with_item, with_production, with_text}
