-- What several files of these proofs use.
pub use Rattle.std.proofs.Common.{All, Bool, Bor, Err, List, None, Ok, Option, Result, Some, [], ap, append-nil, append_assoc}
pub use Rattle.std.proofs.Common.{arith, drop, false, get_or, if◌then◌else◌, inl, inr, is_some, length, length-append}
pub use Rattle.std.proofs.Common.{length-drop, length-take, map, nat_eq, nat_le, pos, refl, reverse, set, slice_get, slice_index}
pub use Rattle.std.proofs.Common.{subst, suc, sym, take, true, vec_len, zero, ℕ, ◌&&◌, ◌*◌, ◌++◌, ◌+◌, ◌-◌, ◌<◌, ◌^◌, ◌↔◌, ◌∙◌}
pub use Rattle.std.proofs.Common.{◌∷◌, ◌≡◌, ◌≢◌, ◌≤◌, ◌⊎◌}
pub use Rattle.std.proofs.lemmas.Bool.{cases_eq, cases_lt, eq-eqb, eqb-true, le-leb, leb-true}
pub use Rattle.std.proofs.lemmas.List.{drop_all, drop_at, length-reverse, reverse-append, reverse-reverse, set-append_left}
pub use Rattle.std.proofs.lemmas.List.{set-append_right, take_all, take_at, take_more}
pub use Rattle.std.proofs.lemmas.List.Elements.{All-append, All-drop, All-from_get_or, All-head, All-nil, All-same}
pub use Rattle.std.proofs.lemmas.List.Elements.{All-set, All-tail, All-take}
pub use Rattle.std.proofs.lemmas.Option.{get_or_from_slice_get, same_Some, slice_get-get_or, slice_get_within}
pub use Rattle.std.proofs.lemmas.Result.{IfOk-weaker, err_from_is_err_and}
pub use Rattle.std.specs.Global.{Vec}
pub use Rattle.std.specs.List.{count_by, flat_map}
pub use Rattle.std.specs.Option.{option_map, option_to_list}
pub use Rattle.std.specs.Prelude.{IsTrue, OnErr, OnOk, cond, slice_index_or}
pub use Rattle.ag_grammar.proofs.grammars.Counting.{count_more, passes_have_all_rules}
pub use Rattle.ag_grammar.proofs.grammars.EachNode.{each_map, same_weaker, solves_wider}
pub use Rattle.ag_grammar.specs.Lists.{Each, Has}
pub use Rattle.ag_grammar.specs.declared.direction.Direction.{Direction}
pub use Rattle.ag_grammar.specs.declared.direction.Direction.TheVariants.{LeftToRight, RightToLeft}
pub use Rattle.ag_grammar.specs.declared.grammar.Item.{Item}
pub use Rattle.ag_grammar.specs.declared.grammar.Item.TheVariants as item
pub use Rattle.ag_grammar.specs.declared.grammar.Production.{Production}
pub use Rattle.ag_grammar.specs.declared.grammar.Rule.{Rule}
pub use Rattle.ag_grammar.specs.declared.grammar.Target.{Target}
pub use Rattle.ag_grammar.specs.declared.grammar.Terminal.TheVariants.{Class, Literal}
pub use Rattle.ag_grammar.specs.expressions.Evaluation.{AreWell, value_of}
pub use Rattle.ag_grammar.specs.grammars.Accepted.{IsAccepted, max_rules}
pub use Rattle.ag_grammar.specs.grammars.AttributeGrammar.{Grammar, HasKind, Inherited, IsArgument, IsProduction, Synthesized}
pub use Rattle.ag_grammar.specs.grammars.AttributeGrammar.{defined_kind, item_at, item_kinds, stored_items, symbol_kinds}
pub use Rattle.ag_grammar.specs.grammars.AttributeGrammar.{used_kind}
pub use Rattle.ag_grammar.specs.grammars.Counts.{is_of_pass, pass_rule_count, rules_of_pass, totals}
pub use Rattle.ag_grammar.specs.grammars.Passes.{HasPass, IsLegal, Passes, direction_of, item_passes, nth, other}
pub use Rattle.ag_grammar.specs.grammars.Solution.{AtEachNode, AtEachNodeOf, Holds, NoRule, OfPass, RulesHold, Same, Solves}
pub use Rattle.ag_grammar.specs.grammars.Solution.{SolvesAll, Supplies, Valuation, WellAt, at, children, graft, left_passes, rest}
pub use Rattle.ag_grammar.specs.grammars.Tree.{Fits, FitsAll, Forest, IsTreeOf, Tree, deepest, depth_of, leaf, max_depth}
pub use Rattle.ag_grammar.specs.grammars.Tree.{max_nodes, more, node, node_count, node_counts, none}
pub use Rattle.ag_value.specs.Well.{IsWell}
pub use Rattle.ag_value.specs.declared.value.Value.{Num, Text, Value}
pub use Rattle.backreader.specs.BackState.{BackState, HasRead, IsOver, lent_body}
pub use Rattle.pass_rows.proofs.Recorded.{copies_counted, copies_well, count_copied, empty_is, first_row, mended, tabled}
pub use Rattle.pass_rows.proofs.places.Entries.{layouts, place_is, place_within, slots_found, slots_less, some_at}
pub use Rattle.pass_rows.proofs.places.Widths.{few_values}
pub use Rattle.pass_rows.specs.Faults.{run_fault_of_frame}
pub use Rattle.pass_rows.specs.Nodes.{after_step, first_at, left_at}
pub use Rattle.pass_rows.specs.Places.{AgreesSoFar, IsReached, Roots, Table, copied_passes, copies, in_children, kept_values}
pub use Rattle.pass_rows.specs.Places.{leftmost, place_passes, rest_of, stored, visited}
pub use Rattle.pass_rows.specs.declared.layouts.building.PlaceRow.{PlaceRow}
pub use Rattle.pass_rows.specs.declared.layouts.building.ProductionRow.{ProductionRow}
pub use Rattle.pass_rows.specs.declared.layouts.building.RuleSlots.{RuleSlots}
pub use Rattle.pass_rows.specs.declared.open_node.OpenNode.{OpenNode}
pub use Rattle.pass_rows.specs.declared.run_fault.RunFault.{RunFault}
pub use Rattle.pass_rows.specs.declared.run_fault.RunFault.TheVariants as fault
pub use Rattle.pass_rows.specs.layouts.Contexts.{setting}
pub use Rattle.pass_rows.specs.layouts.Layouts.{AreSlotsOf, IsLayout, IsRowAt, IsRowOf}
pub use Rattle.pass_rows.specs.layouts.Slots.{argument_slot, copied_all, copied_before, copied_width, copy_start, known_width}
pub use Rattle.pass_rows.specs.layouts.Slots.{rank, stored_width, target_slot}
pub use Rattle.pass_rows.specs.reading.Reading.{AgreeAt, Agrees, IsNodeRead, IsRead, read_values}
pub use Rattle.passassign.specs.Rows.{AreAtMost, IsGreatest, passes_of}
pub use Rattle.passcode.specs.Counts.{is_computation}
pub use Rattle.passcode.specs.Rows.{Lists}
pub use Rattle.passcode.specs.Settings.{EvaluationPlan, Setting, list_at, pass_direction, setting_of}
pub use Rattle.passcode.specs.Sound.{IsSound}
pub use Rattle.passcode.specs.declared.instr.Instr.{Instr}
pub use Rattle.passcode.specs.declared.instr.Instr.TheVariants as instr
pub use Rattle.passcode.specs.declared.phase.Phase.{Phase}
pub use Rattle.passcode.specs.declared.phase.Phase.TheVariants.{Between, Ended, Gone, Got}
pub use Rattle.passrun.specs.Damage.{AreRecords, ArrivesAt, ExceedsDepth, ExceedsNodes, IsDamaged, IsReadable, source}
pub use Rattle.passrun.specs.Laws.{CountsPass}
pub use Rattle.passrun.specs.Passed.{IsPassed}
pub use Rattle.passrun.specs.declared.last.Last.{Last}
pub use Rattle.passrun.specs.declared.last.Last.TheVariants.{A, B}
pub use Rattle.passrun.specs.declared.passing.ends.Passed.{Passed}
pub use Rattle.passrun.specs.declared.passing.machine.Machine.{Machine}
pub use Rattle.passrun.specs.passing.Ahead.{IsRunFault, children_of, following, goes_next, pending, pending_of_child}
pub use Rattle.passrun.specs.passing.Change.{node_table, with_row}
pub use Rattle.passrun.specs.passing.OpenNodes.{RootPath}
pub use Rattle.passrun.specs.passing.Putting.{AddsFrames, HasPut}
pub use Rattle.passrun.specs.passing.RunInvariant.{AreHeld, ContinuesAs, Entry, Expects, IsActive, IsConsistent, IsCurrent}
pub use Rattle.passrun.specs.passing.RunInvariant.{IsEvaluatedTree, IsGone, IsHeld, IsOpenNode, IsReady, IsRootReady, Keeps}
pub use Rattle.passrun.specs.passing.RunInvariant.{RunInvariant, Transcript, after_reading, below, put_of, root_body}
pub use Rattle.passrun.specs.passing.RunInvariant.{root_number, rules_at, rules_left, state_of}
pub use Rattle.passrun.specs.passing.Running.{Preserves, Runs, RunsRuleNext, World, between, stack_of, unknown_world}
pub use Rattle.passrun.specs.passing.Running.{with_first_device, with_meter, with_second_device}
pub use Rattle.passrun.specs.reading.Fetching.{HasFetched, IsMissing, IsUnfetched}
pub use Rattle.treefile.proofs.framing.Backward.{back_is_file, damage_is_there, never_no_file, none_at_header, reads_on}
pub use Rattle.treefile.proofs.framing.Backward.{reads_whole}
pub use Rattle.treefile.proofs.framing.Beginning.{added, frames_begin, none_added, not_begun, one_added, one_refused}
pub use Rattle.treefile.proofs.records.Fitting.{fits_version_two, numbered}
pub use Rattle.treefile.proofs.records.Records.{bodies_count, bodies_counts, is_body}
pub use Rattle.treefile.proofs.records.Spelled.{one_token, same_node}
pub use Rattle.treefile.proofs.records.Values.{count_of_values, values_well}
pub use Rattle.treefile.specs.Runs.{RunsPass, RunsPasses}
pub use Rattle.treefile.specs.declared.body.Kind.TheVariants.{Node, Token}
pub use Rattle.treefile.specs.declared.reading.FrameFault.{FrameFault}
pub use Rattle.treefile.specs.declared.reading.FrameFault.TheVariants as frame_fault
pub use Rattle.treefile.specs.devices.Device.{LeavesContent, Persists, WhenHonest}
pub use Rattle.treefile.specs.framing.Backward.{ReadsTo, before_frame, next_before, pass_in, pass_of}
pub use Rattle.treefile.specs.framing.Ending.{IsBytes, IsUsable, ReadsAs, is_tree_file, version_two_usable}
pub use Rattle.treefile.specs.framing.ExpectedRecords.{Breaks, Child, IsNoRecord, IsNodeRecord, IsRecordOf, MatchesCopy, Pending}
pub use Rattle.treefile.specs.framing.ExpectedRecords.{ReadSoFar, before_others, children_with_copies, pending_root}
pub use Rattle.treefile.specs.framing.Writing as writing
pub use Rattle.treefile.specs.records.Listed.{count_up_to}
pub use Rattle.treefile.specs.records.Orders.{BodyTree, branch, postfix, postfix_all, prefix, prefix_all}
pub use Rattle.treefile.specs.records.Records.{FitsVersion, IsFileOfTree, bodies_of, bodies_of_all, copies_of, copy_of, node_body}
pub use Rattle.treefile.specs.records.Records.{synthesized_count, values_up_to}
pub use Rattle.treefile.specs.records.TreeFile.{body_of, file, frame, header, version_two}
