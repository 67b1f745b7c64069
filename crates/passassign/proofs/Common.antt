-- What several files of these proofs use.
pub use Rattle.std.proofs.Common.{All, Bool, Err, IfOk, IfSome, IsTrue, List, None, Ok, Option, Result, Some, [], add-one, ap}
pub use Rattle.std.proofs.Common.{append_assoc, arith, cond, drop, eqb, false, get_or, inl, inr, length, map, nat_lt, refl}
pub use Rattle.std.proofs.Common.{slice_get, subst, suc, sym, take, true, unwrap_or, zero, zero-add, ℕ, ◌%◌, ◌&&◌, ◌*◌, ◌++◌}
pub use Rattle.std.proofs.Common.{◌+◌, ◌/◌, ◌<◌, ◌↔◌, ◌∙◌, ◌∷◌, ◌≡◌, ◌≤◌, ◌⊎◌}
pub use Rattle.std.proofs.Math.Arith.{lt_of_le-ne}
pub use Rattle.std.proofs.Math.ListN.{get_or-eq_default, length-append}
pub use Rattle.std.proofs.lemmas.Bool.{cases_Bool, cases_eq, cases_lt, cases_order, lt-ltb, ltb-true}
pub use Rattle.std.proofs.lemmas.List.{append-nil, get_or-map, get_or_append_left, get_or_past, get_or_push, length-map}
pub use Rattle.std.proofs.lemmas.List.{map-append, take_all}
pub use Rattle.std.proofs.lemmas.Option.{get_or_from_slice_get, slice_get-get_or, slice_get_past, slice_get_read}
pub use Rattle.std.proofs.lemmas.Option.{slice_get_within}
pub use Rattle.std.proofs.lemmas.Result.{IfOk-weaker}
pub use Rattle.std.specs.Global.{Vec}
pub use Rattle.ag_grammar.proofs.grammars.OneSolution.{counterpart, may_le}
pub use Rattle.ag_grammar.specs.Lists.{Differ, Each, Has}
pub use Rattle.ag_grammar.specs.declared.direction.Direction.{Direction}
pub use Rattle.ag_grammar.specs.declared.direction.Direction.TheVariants.{LeftToRight, RightToLeft}
pub use Rattle.ag_grammar.specs.declared.grammar.Item.{Item}
pub use Rattle.ag_grammar.specs.declared.grammar.Item.TheVariants as item
pub use Rattle.ag_grammar.specs.declared.grammar.Production.{Production}
pub use Rattle.ag_grammar.specs.declared.grammar.Rule.{Rule}
pub use Rattle.ag_grammar.specs.declared.grammar.Symbol.{Symbol}
pub use Rattle.ag_grammar.specs.declared.grammar.Target.{Target}
pub use Rattle.ag_grammar.specs.declared.grammar.Terminal.TheVariants.{Class, Literal}
pub use Rattle.ag_grammar.specs.grammars.Accepted.{IsAccepted, IsComplete, IsNormal, max_passes}
pub use Rattle.ag_grammar.specs.grammars.AttributeGrammar.{Grammar, HasKind, Inherited, IsArgument, IsProduction, IsRule, Kind}
pub use Rattle.ag_grammar.specs.grammars.AttributeGrammar.{RefersTo, Synthesized, attribute_names, defined_kind, item_at}
pub use Rattle.ag_grammar.specs.grammars.AttributeGrammar.{item_kinds, stored_items, symbol_kinds, symbol_names}
pub use Rattle.ag_grammar.specs.grammars.AttributeGrammar.{used_kind}
pub use Rattle.ag_grammar.specs.grammars.Passes.{IsBefore, IsLegal, IsLegalFor, MayUse, Passes, direction_of, other}
pub use Rattle.closure.specs.declared.addition.Addition.{Addition}
pub use Rattle.passassign.specs.Certificate.{AreGood, Attributes, IsCertificate, IsGood, IsGoodWhere, IsOneOf, IsReason}
pub use Rattle.passassign.specs.Certificate.{IsReasonWhere, IsSameOrLater, IsStruckBy, Members, StrikesAll, StrikesExactly}
pub use Rattle.passassign.specs.Certificate.{stuck_of}
pub use Rattle.passassign.specs.Chains.{AreAwaitedBefore, AreLinked, IsChainOf, StartsWith, WaitsFor, WaitsForNone, strike_at}
pub use Rattle.passassign.specs.Dependencies.{dependencies_of, dependencies_of_production, dependencies_of_rule, dependency_of}
pub use Rattle.passassign.specs.Dependencies.{dependency_on, symbol_of}
pub use Rattle.passassign.specs.Least.{AssignsOnlyAttributes, HasPassIn, IsAlternating, IsAttribute, IsLeast, IsLegalPartial}
pub use Rattle.passassign.specs.Least.{IsStuck, Partial, partial_of, pass_at}
pub use Rattle.passassign.specs.Making.{AreFinished, AreIdle, AreMarks, IsMade, IsOpen, IsPass, pass_after, passed, start}
pub use Rattle.passassign.specs.PassStrikes.{AreStrikesAt, AreStrikesOf, AreStrikesSoFar, HasNoPassBelow, HasNoPassUpTo}
pub use Rattle.passassign.specs.PassStrikes.{HasPassAfter, HasPassFrom, IsLastInUse, list_for, strikes_of}
pub use Rattle.passassign.specs.PassesSoFar.{IsAcceptedWith, IsNext, IsProgress, KeepPasses, open_count}
pub use Rattle.passassign.specs.Rows.{AreAtMost, AreWithinMaxPasses, IsGreatest, numbers_of, passes_of}
pub use Rattle.passassign.specs.Searching.{AreReady, BelongTo, IsBarred, IsSearch, IsStrikeOf, IsStruckAt, edge_of, target_of}
pub use Rattle.passassign.specs.Tables.{AreRowsOfTable, IsDeclared, IsFirstTable, IsTable, after_pass, attribute_count}
pub use Rattle.passassign.specs.Tables.{first_state, is_marked, is_open, pass_of_state, slot_of, state_at, state_of, table_passes}
pub use Rattle.passassign.specs.declared.assigning.PassesSoFar.{PassesSoFar}
pub use Rattle.passassign.specs.declared.dependency.Dependency.{Dependency}
pub use Rattle.passassign.specs.declared.stuck.Strike.{Strike}
pub use Rattle.passassign.specs.declared.stuck.Stuck.{Stuck}
pub use Rattle.passassign.specs.declared.table.State.{State}
pub use Rattle.passassign.specs.declared.table.State.TheVariants.{Absent, Assigned, Open}
