-- What several files of these proofs use.
pub use Rattle.std.proofs.Common.{Bool, IsTrue, List, None, Option, Some, [], add-one, ap, arith, false, get_or, inl, inr, length}
pub use Rattle.std.proofs.Common.{map, option_map, refl, slice_get, subst, suc, sym, take, true, zero, ℕ, ◌++◌, ◌+◌, ◌-◌, ◌<◌}
pub use Rattle.std.proofs.Common.{◌==◌, ◌↔◌, ◌∙◌, ◌∷◌, ◌≡◌, ◌≤◌, ◌⊎◌}
pub use Rattle.std.proofs.lemmas.Bool.{cases_eq, cases_lt, false≢true}
pub use Rattle.std.proofs.lemmas.List.{get_or_past, length-map}
pub use Rattle.std.proofs.lemmas.Option.{slice_get-get_or, slice_get_read, slice_get_within}
pub use Rattle.std.specs.Global.{Vec}
pub use Rattle.ag_grammar.specs.Lists.{Differ, Has}
pub use Rattle.ag_grammar.specs.declared.grammar.Production.{Production}
pub use Rattle.ag_grammar.specs.declared.grammar.Rule.{Rule}
pub use Rattle.ag_grammar.specs.declared.grammar.Target.{Target}
pub use Rattle.ag_grammar.specs.grammars.Accepted.{IsAccepted, max_attributes, max_passes, max_symbols}
pub use Rattle.ag_grammar.specs.grammars.AttributeGrammar.{Grammar, IsArgument, defined_kind, item_at, symbol_kinds}
pub use Rattle.ag_grammar.specs.grammars.Passes.{HasPass, IsLegal, MayUse, Passes}
pub use Rattle.passassign.proofs.slots.Linked.{attribute_within, slot_same}
pub use Rattle.passassign.specs.PassStrikes.{AreStrikesAt, AreStrikesOf}
pub use Rattle.passassign.specs.Rows.{IsGreatest, numbers_of, passes_of}
pub use Rattle.passassign.specs.declared.stuck.Strike.{Strike}
pub use Rattle.passcode.proofs.Slices.{read_at}
pub use Rattle.passcode.specs.Agreement.{ListAgrees}
pub use Rattle.passcode.specs.Course.{IsAvailable, State, start, state_at}
pub use Rattle.passcode.specs.Rows.{Lists, lists_of, row_of, rows_of}
pub use Rattle.passcode.specs.declared.instr.Instr.{Instr}
pub use Rattle.planchecker.specs.Agreeing.{BeginsAs, CanBegin, IsFirstList, IsFirstWrong, ListsAgree}
pub use Rattle.planchecker.specs.First.{EachAt, IsFirstNot}
pub use Rattle.planchecker.specs.Following.{IsOnPath, RunsRule, state_of}
pub use Rattle.planchecker.specs.Legality.{AreAllowed, IsAllowed}
pub use Rattle.planchecker.specs.Marking.{IsMarked}
pub use Rattle.planchecker.specs.Shapes.{IsRow}
pub use Rattle.planchecker.specs.Striking.{IsNext, IsNextWhere}
