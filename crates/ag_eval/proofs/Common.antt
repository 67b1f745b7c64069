-- What several files of these proofs use.
pub use Rattle.std.proofs.Common.{Bool, Err, List, None, Ok, Option, Result, Some, [], ap, arith, bytes_eq, cond, drop, false}
pub use Rattle.std.proofs.Common.{filter, find, get_or, length, map, max, min, nat_cmp, nat_lt, neg_ℤ, negsuc, pos, refl, rules}
pub use Rattle.std.proofs.Common.{set, slice_get, string_bytes, subst, suc, sum, sym, take, true, zero, ℕ, ℤ, ◌&&◌, ◌++◌, ◌+◌}
pub use Rattle.std.proofs.Common.{◌-◌, ◌<◌, ◌==◌, ◌^◌, ◌∙◌, ◌∷◌, ◌≡◌, ◌≢◌, ◌≤◌}
pub use Rattle.std.proofs.lemmas.Bool.{and_parts, eqb-false, eqb-true}
pub use Rattle.std.proofs.lemmas.List.{drop_more, length-map, map-append}
pub use Rattle.std.proofs.lemmas.Option.{same_Some, slice_get-get_or}
pub use Rattle.std.proofs.lemmas.Slice.Eq.{bytes_eq-Decides}
pub use Rattle.std.specs.List.{flat_map, insert, join_by, list_all}
pub use Rattle.std.specs.Option.{IfSome, option_map, option_to_list}
pub use Rattle.std.specs.Prelude.{option_copied}
pub use Rattle.std.specs.Result.{IfOk, MatchResult, OkIff, OnOk, result_ok}
pub use Rattle.std.specs.Str.{IsUtf8, is_utf8}
pub use Rattle.ag_eval.specs.Operands.{IsIn, each_within, held_value, operand_value, ref_value, scalar_value}
pub use Rattle.ag_grammar.proofs.expressions.Trees.{body_below, chain_below, chain_is, operand_below}
pub use Rattle.ag_grammar.proofs.values.Same.{decided}
pub use Rattle.ag_grammar.proofs.values.Worked.{big_next, deep_first, fits}
pub use Rattle.ag_grammar.specs.declared.syntax.node.Node.{Node, the_lemmas}
pub use Rattle.ag_grammar.specs.declared.syntax.node.Operator.{Operator}
pub use Rattle.ag_grammar.specs.expressions.Evaluation.{AreWell, Meaning, bound_value, chain_value, item_values, value_in}
pub use Rattle.ag_grammar.specs.expressions.Trees.{all_below, is_within}
pub use Rattle.ag_grammar.specs.values.Operators.{operation_result, operator_result}
pub use Rattle.ag_value.proofs.operations.Growing.{all_true-append, depth-one, depth-together, fits-pushed, fits-together}
pub use Rattle.ag_value.proofs.operations.Growing.{gathers, item_of, weight-one, weight-together}
pub use Rattle.ag_value.proofs.operations.Tables.{Pair, item_table, rising_table, table_parts, well_got, well_keys}
pub use Rattle.ag_value.proofs.operations.Wells.{big_text, short_table, well_decimal, well_nth}
pub use Rattle.ag_value.specs.Well.{IsWell, all_true, are_keys, is_ascending, is_before, is_i64, is_item, is_item_pair, key_of}
pub use Rattle.ag_value.specs.declared.value.ErrorCode.{ErrorCode}
pub use Rattle.ag_value.specs.declared.value.ErrorCode.TheVariants.{Big, Deep, Key}
pub use Rattle.ag_value.specs.declared.value.Value.{Value, out-Value, roll-Value, roll-out-Value}
pub use Rattle.ag_value.specs.declared.value.Value.TheOpen.{Value-F}
pub use Rattle.ag_value.specs.declared.value.Value.TheVariants.{outs-Fault, outs-List, outs-Num, rolls-Text}
pub use Rattle.ag_value.specs.declared.value.Value.TheVariants as value
pub use Rattle.ag_value.specs.operations.Arguments.{fault_or, leftmost, truth}
pub use Rattle.ag_value.specs.operations.Fitting.{fit}
pub use Rattle.ag_value.specs.operations.Lists.{append_result, appended_at, concatenated_at, concatenation, item_at, listed}
pub use Rattle.ag_value.specs.operations.Tables.{IsIndex, has_key, pair_with, value_or_fault, with_pair}
pub use Rattle.ag_value.specs.operations.Texts.{bytes_at, bytes_of, is_text, is_text_at}
