-- What several files of these proofs use.
pub use Rattle.std.proofs.Common.{List, Some, [], ap, append-nil, append_assoc, arith, drop, get_or, if◌then◌else◌, length}
pub use Rattle.std.proofs.Common.{length-take, map, nat_le, refl, rules, slice_get, suc, sym, zero, ℕ, ◌*◌, ◌++◌, ◌+◌, ◌-◌, ◌<◌}
pub use Rattle.std.proofs.Common.{◌∙◌, ◌∷◌, ◌≡◌, ◌≤◌}
pub use Rattle.std.proofs.lemmas.Option.{get_or_from_slice_get, slice_get_within}
pub use Rattle.std.proofs.lemmas.Result.{err_from_is_err_and, on_ok_weaker}
pub use Rattle.std.specs.List.{flat_map}
pub use Rattle.ag_grammar.specs.declared.grammar.Item.{Item}
pub use Rattle.ag_grammar.specs.declared.grammar.Production.{Production}
pub use Rattle.ag_grammar.specs.declared.grammar.Rule.{Rule}
pub use Rattle.ag_grammar.specs.declared.grammar.Target.{Target}
pub use Rattle.ag_grammar.specs.declared.grammar.Terminal.TheVariants.{Class, Literal}
pub use Rattle.ag_grammar.specs.grammars.Accepted.{max_children}
pub use Rattle.ag_grammar.specs.grammars.AttributeGrammar.{item_at, places_of, stored_items}
pub use Rattle.ag_value.specs.declared.value.Value.{Num, Value}
pub use Rattle.pass_rows.specs.Places.{copied_passes, row_passes}
pub use Rattle.pass_rows.specs.Settings.{pass_setting}
pub use Rattle.pass_rows.specs.declared.layouts.building.PlaceRow.{PlaceRow}
pub use Rattle.pass_rows.specs.declared.layouts.building.ProductionRow.{ProductionRow}
pub use Rattle.pass_rows.specs.declared.layouts.building.RuleSlots.{RuleSlots}
pub use Rattle.pass_rows.specs.layouts.BuiltLayouts.{AreWithin, argument_slot_by, item_in, layout_of, place_rows, production_row}
pub use Rattle.pass_rows.specs.layouts.BuiltLayouts.{rows_after, rows_from, rule_slots, rule_slots_by, start_in}
pub use Rattle.pass_rows.specs.layouts.Contexts.{setting}
pub use Rattle.pass_rows.specs.layouts.Slots.{argument_slot, copied_all, copied_before, copied_width, copy_start, own_width}
pub use Rattle.pass_rows.specs.layouts.Slots.{stored_width}
pub use Rattle.pass_rows.specs.layouts.Starts.{AreSmall}
pub use Rattle.pass_rows.specs.reading.Reading.{AreTaken, IsNoRow, PrependsTo}
pub use Rattle.passassign.specs.Rows.{passes_of}
pub use Rattle.passcode.specs.Settings.{Setting}
pub use Rattle.treefile.proofs.records.Values.{few_counted}
pub use Rattle.std.proofs.lemmas.Bool.Decides.{nat_tests}
pub use Rattle.std.proofs.lemmas.List.{drop_all, drop_more}
pub use Rattle.std.specs.Int.{cast_signed, cast_unsigned, w64}
pub use Rattle.ag_grammar.specs.declared.grammar.Item.TheVariants as item
