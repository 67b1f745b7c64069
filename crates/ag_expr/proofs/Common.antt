-- What several files of these proofs use.
pub use Rattle.std.proofs.Common.{Bool, Bor, Err, IfOk, IfSome, IsUtf8, List, None, Ok, Option, Result, Some, [], ap, append-nil}
pub use Rattle.std.proofs.Common.{append_assoc, arith, bytes_eq, chars, codes, cond, drop, false, filter, get_or, if◌then◌else◌}
pub use Rattle.std.proofs.Common.{inl, inr, is_some, length, length-append, lit<, map, not, option_to_list, pos, position, refl}
pub use Rattle.std.proofs.Common.{rules, subst, suc, sym, true, zero, ℕ, ◌&&◌, ◌*◌, ◌++◌, ◌+◌, ◌-◌, ◌<◌, ◌==◌, ◌||◌, ◌↔◌, ◌∙◌}
pub use Rattle.std.proofs.Common.{◌∷◌, ◌≡◌, ◌≢◌, ◌≤◌, ◌⊎◌}
pub use Rattle.std.proofs.lemmas.Bool.{and_parts, eq-eqb, lt-ltb}
pub use Rattle.std.proofs.lemmas.Bool.Decides.{nat_tests}
pub use Rattle.std.proofs.lemmas.List.{map-append}
pub use Rattle.std.proofs.lemmas.List.Folds.{list_any-append, list_any_at}
pub use Rattle.std.proofs.lemmas.Slice.Eq.{bytes_eq-Decides}
pub use Rattle.std.specs.Result.{IfErr, IsErrAnd}
pub use Rattle.ag_expr.specs.declared.fault.ExprFault.{ExprFault}
pub use Rattle.ag_expr.specs.declared.fault.ExprFault.TheVariants as fault
pub use Rattle.ag_expr.specs.declared.names.Call.{Call}
pub use Rattle.ag_expr.specs.declared.names.Call.TheVariants as call
pub use Rattle.ag_expr.specs.declared.parser.Precedence.{Precedence}
pub use Rattle.ag_expr.specs.declared.parser.Precedence.TheVariants as precedence
pub use Rattle.ag_expr.specs.language.Expression.{IsFaultFrom, IsFaultOf, IsRefused, ReadsAsExpr, begins_expression, max_levels}
pub use Rattle.ag_expr.specs.language.Names.{Names, binding_in, is_reserved, last_from, without_innermost}
pub use Rattle.ag_expr.specs.language.Occurrences.{all_occurrences, distinct_occurrences, is_of, listed_with, listed_with_all}
pub use Rattle.ag_expr.specs.language.Occurrences.{occurrence_in, position_of}
pub use Rattle.ag_expr.specs.language.State.{IsReadEnded, IsReadToEnd, KeepsContext, State, complete_list, from_end, input, start}
pub use Rattle.ag_grammar.specs.declared.syntax.node.Node.{Node}
pub use Rattle.ag_grammar.specs.declared.syntax.node.Node.TheVariants as node
pub use Rattle.ag_grammar.specs.declared.syntax.node.Operator.{Operator}
pub use Rattle.ag_grammar.specs.declared.syntax.occurrence.Occ.{Occ}
pub use Rattle.ag_grammar.specs.expressions.Expression.{Expression}
pub use Rattle.ag_grammar.specs.expressions.Trees.{is_below}
pub use Rattle.ag_tokens.specs.Ending.{Ending, offset_of}
pub use Rattle.ag_tokens.specs.Ending as ending
pub use Rattle.ag_tokens.specs.GrammarToken.{GrammarToken, Sign, mark, sign_token, word}
pub use Rattle.ag_tokens.specs.GrammarToken as token
pub use Rattle.ag_tokens.specs.Languages.{IsFew, Many, further, gives, more, none, one, ◌>>=◌, ◌>>◌, ◌or◌}
pub use Rattle.ag_tokens.specs.Parsing.{Outcome, and_then, choose, fault_of, first_token, further_from, is_end, is_sign}
pub use Rattle.ag_tokens.specs.Parsing.{item_bound, meaning_of, next, next_token, offset, one_from, pure, same_mark, sees}
pub use Rattle.ag_tokens.specs.Parsing as reading
pub use Rattle.ag_tokens.specs.PlacedToken.{Input, PlacedToken, tokens}
pub use Rattle.ag_tokens.specs.Tokens.{AreTokens, Lexes}
pub use Rattle.ag_tokens.specs.declared.token.Punctuation.TheVariants as punctuation
