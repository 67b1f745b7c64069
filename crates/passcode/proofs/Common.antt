-- What several files of these proofs use.
pub use Rattle.std.proofs.Common.{Bool, List, None, Option, Some, [], ap, append-nil, append_assoc, arith, cond, drop, false}
pub use Rattle.std.proofs.Common.{get_or, inl, inr, length, length-append, refl, slice_get, subst, suc, sym, true, zero, ℕ}
pub use Rattle.std.proofs.Common.{add-one, ◌++◌, ◌+◌, ◌-◌, ◌<◌, ◌∙◌, ◌∷◌, ◌≡◌, ◌≤◌, ◌⊎◌}
pub use Rattle.std.proofs.lemmas.Bool.{cases_eq, cases_lt, eq-eqb, eqb-true, le-ltb, lt-ltb, ne_eqb}
pub use Rattle.std.proofs.lemmas.Option.{get_or_from_slice_get, slice_get-get_or, slice_get_cases, slice_get_read}
pub use Rattle.std.proofs.lemmas.Option.{slice_get_within}
pub use Rattle.std.specs.List.{count_by, flat_map, list_any, position, position_or_len, range_with_len}
pub use Rattle.std.specs.Prelude.{nat_eq, ◌↔◌}
pub use Rattle.ag_grammar.specs.Lists.{DifferIn, Each, Has}
pub use Rattle.ag_grammar.specs.declared.grammar.Item.{Item}
pub use Rattle.ag_grammar.specs.declared.grammar.Item.TheVariants as item
pub use Rattle.ag_grammar.specs.declared.grammar.Production.{Production}
pub use Rattle.ag_grammar.specs.declared.grammar.Rule.{Rule}
pub use Rattle.ag_grammar.specs.declared.grammar.Target.{Target}
pub use Rattle.ag_grammar.specs.declared.grammar.Terminal.TheVariants.{Class, Literal}
pub use Rattle.ag_grammar.specs.grammars.AttributeGrammar.{Grammar, IsArgument, item_at, stored_items}
pub use Rattle.ag_grammar.specs.grammars.Passes.{HasPass, IsBefore, IsLegal, IsLegalFor, MayUse, Passes, direction_of}
pub use Rattle.ag_grammar.specs.grammars.Passes.{item_passes, nth}
pub use Rattle.passassign.specs.Rows.{IsGreatest, passes_of}
pub use Rattle.passcode.specs.Agreement.{HasPlace, IsAvailableAt, IsChild, IsComputation, IsRuleAt, ListAgrees, OccursBefore}
pub use Rattle.passcode.specs.Agreement.{OccursOnceIf, Precedes, instruction_of, set_or_def}
pub use Rattle.passcode.specs.Course.{AreDone, Between, Ended, Gone, Got, IsFinal, IsTurnOf, IsVisited, MayCompute}
pub use Rattle.passcode.specs.Course.{MayRun, Phase, Runs, State, after, after_get, arity, place_of, read_count, run_count, start}
pub use Rattle.passcode.specs.Course.{state_at}
pub use Rattle.passcode.specs.Course as Course
pub use Rattle.passcode.specs.Limits.{IsPlanned}
pub use Rattle.passcode.specs.Listing.{AreGeneratedLists, generated_list, is_same, remaining_for, visit, visits}
pub use Rattle.passcode.specs.Rows.{Lists, lists_of, row_of, rows_of}
pub use Rattle.passcode.specs.Shape.{HasLists}
pub use Rattle.passcode.specs.declared.instr.Instr.{Instr}
pub use Rattle.passcode.specs.declared.instr.Instr.TheVariants as instr
