-- What several files of these proofs use.
pub use Rattle.std.proofs.Common.{All, Bool, Bor, Err, List, None, Ok, Option, Result, Some, [], ap, append-nil, append_assoc}
pub use Rattle.std.proofs.Common.{arith, cond, drop, false, inl, inr, is_some, length, length-append, lit<, lit≤, map, refl}
pub use Rattle.std.proofs.Common.{reverse, rules, slice_range, subst, suc, sym, take, take_at, true, zero, zero-add, ℕ, ◌++◌, ◌+◌}
pub use Rattle.std.proofs.Common.{◌-◌, ◌<◌, ◌∙◌, ◌∷◌, ◌≡◌, ◌≤◌}
pub use Rattle.std.proofs.lemmas.List.Elements.{All-append, All-cons, All-nil}
pub use Rattle.std.proofs.lemmas.Result.{err_from_is_err_and}
pub use Rattle.std.specs.Int.{from_be_bytes, w32}
pub use Rattle.std.specs.List.{flat_map}
pub use Rattle.std.specs.Option.{option_map}
pub use Rattle.std.specs.Prelude.{option_and_then}
pub use Rattle.ag_grammar.specs.declared.direction.Direction.{Direction}
pub use Rattle.ag_grammar.specs.declared.direction.Direction.TheVariants.{LeftToRight, RightToLeft}
pub use Rattle.ag_grammar.specs.grammars.Passes.{other}
pub use Rattle.backreader.specs.Arities.{arity_of}
pub use Rattle.backreader.specs.BackState.{BackState, EndsAt, IsLarge, IsOver, Progress, buffer_bytes, progress_after}
pub use Rattle.backreader.specs.Windows.{taken, unread}
pub use Rattle.backreader.specs.declared.turning.TurnFault.{TurnFault}
pub use Rattle.backreader.specs.declared.turning.TurnFault.TheVariants as turn_fault
pub use Rattle.backreader.specs.turning.Turning.{IsFileOf, Reverses, max_reversed_levels, max_reversed_records}
pub use Rattle.treefile.proofs.framing.Backward.{All-reverse, back_is_file, damage_is_there, never_no_file, none_at_header}
pub use Rattle.treefile.proofs.framing.Backward.{read_back, read_bodies, reads_apart, reads_on, reads_same, reads_whole}
pub use Rattle.treefile.proofs.records.Frames.{bytes_part, fits, length_part, read_at}
pub use Rattle.treefile.proofs.records.Orders.{length-prefix, length-prefix_all, one_tree, one_tree_at_end, turned}
pub use Rattle.treefile.specs.declared.reading.FrameFault.{FrameFault}
pub use Rattle.treefile.specs.declared.reading.FrameFault.TheVariants.{Damaged, Device, NoMemory, NotATreeFile}
pub use Rattle.treefile.specs.declared.reading.FrameFault.TheVariants as frame_fault
pub use Rattle.treefile.specs.devices.Device.{LeavesContent, Persists, WhenHonest}
pub use Rattle.treefile.specs.framing.Backward.{ReadsBack, ReadsTo, before_frame, next_before, pass_in, pass_of}
pub use Rattle.treefile.specs.framing.Ending.{IsBody, IsBytes, ReadsAs, body_before, greatest_body, header_bytes, is_tree_file}
pub use Rattle.treefile.specs.framing.Ending.{least_body, length_bytes, number_before, version_two_usable}
pub use Rattle.treefile.specs.records.Orders.{AllMatchArity, BodyForest, BodyTree, MatchesArity, branch, deepest, depth_of}
pub use Rattle.treefile.specs.records.Orders.{joined, more, node_count, none, postfix, postfix_all, prefix, prefix_all}
pub use Rattle.treefile.specs.records.Orders.{tree_count}
pub use Rattle.treefile.specs.records.TreeFile.{Version, file, frame, header, version_of, version_two}
