-- What several files of these proofs use.
pub use Rattle.std.proofs.Common.{All, Bool, Err, IsUtf8, List, None, Ok, Option, Result, Some, [], ap, append-nil, append_assoc}
pub use Rattle.std.proofs.Common.{arith, codes, cond, drop, false, inl, inr, length, length-append, length-drop, length-take}
pub use Rattle.std.proofs.Common.{length-take-le, lit<, map, pos, refl, reverse, rules, slice_get, slice_range, subst, suc, sym}
pub use Rattle.std.proofs.Common.{take, take-append-drop, true, w64, zero, ℕ, ◌*◌, ◌++◌, ◌+◌, ◌-◌, ◌<◌, ◌^◌, ◌↔◌, ◌∙◌, ◌∷◌, ◌≡◌}
pub use Rattle.std.proofs.Common.{◌≤◌, ◌⊎◌}
pub use Rattle.std.proofs.lemmas.Bool.{eq-eqb, le-leb, le-ltb, lt-ltb}
pub use Rattle.std.proofs.lemmas.Bool.Decides.{Decides-eqb, leb_tells, nat_tests}
pub use Rattle.std.proofs.lemmas.Grind.{flat_map-append}
pub use Rattle.std.proofs.lemmas.List.{drop-take, drop_all, drop_at, get_or-drop, get_or-take, get_or_past, length-map}
pub use Rattle.std.proofs.lemmas.List.{length-reverse, reverse-append, reverse-reverse, take-take, take_all, take_at}
pub use Rattle.std.proofs.lemmas.List.Elements.{All-append, All-cons, All-drop, All-head, All-nil, All-push, All-tail, All-take}
pub use Rattle.std.proofs.lemmas.Option.{same_Some, slice_get_within}
pub use Rattle.std.specs.Int.{from_be_bytes, to_be_bytes, w16, w32}
pub use Rattle.std.specs.List.{flat_map, starts_with}
pub use Rattle.std.specs.Prelude.{nat_eq, nat_lt}
pub use Rattle.ag_grammar.proofs.grammars.EachNode.{each_well, no_rules, same_texts, same_weaker}
pub use Rattle.ag_grammar.proofs.grammars.samples.TokenSample.{fits as token_fits, text as token_text}
pub use Rattle.ag_grammar.specs.declared.direction.Direction.{Direction}
pub use Rattle.ag_grammar.specs.declared.direction.Direction.TheVariants.{LeftToRight, RightToLeft}
pub use Rattle.ag_grammar.specs.declared.grammar.Item.{Item}
pub use Rattle.ag_grammar.specs.declared.grammar.Item.TheVariants as item
pub use Rattle.ag_grammar.specs.declared.grammar.Production.{Production}
pub use Rattle.ag_grammar.specs.declared.grammar.Terminal.TheVariants.{Class, Literal}
pub use Rattle.ag_grammar.specs.grammars.AttributeGrammar.{Grammar, stored_items}
pub use Rattle.ag_grammar.specs.grammars.Passes.{IsLegal, Passes, direction_of, other}
pub use Rattle.ag_grammar.specs.grammars.Sample.{iffy, token_sample, token_tree}
pub use Rattle.ag_grammar.specs.grammars.Solution.{AtEachNodeOf, IsWellOn, NoRule, Same, SameAt, Solves, SolvesAll, Valuation}
pub use Rattle.ag_grammar.specs.grammars.Solution.{WellAt, at, children, graft, left_passes, rest}
pub use Rattle.ag_grammar.specs.grammars.Tree.{Fits, FitsAll, Forest, IsTokenText, IsTreeOf, Tree, deepest, depth_of, leaf}
pub use Rattle.ag_grammar.specs.grammars.Tree.{max_depth, max_nodes, more, node, node_count, node_counts, none}
pub use Rattle.ag_value.proofs.Codec.{well_is_read}
pub use Rattle.ag_value.proofs.Layers.{depth-Num, item-Num, spelling-Num, spellings, weight-Num}
pub use Rattle.ag_value.proofs.operations.Wells.{formed, well_text}
pub use Rattle.ag_value.specs.Spelling.{spelling_of}
pub use Rattle.ag_value.specs.Well.{IsWell}
pub use Rattle.ag_value.specs.declared.value.Value.{Num, Text, Value}
pub use Rattle.ag_value.specs.declared.value.Value.TheVariants as value
pub use Rattle.treefile.specs.declared.body.Kind.{Kind}
pub use Rattle.treefile.specs.declared.body.Kind.TheVariants.{Node, Token}
pub use Rattle.treefile.specs.declared.reading.FrameFault.{FrameFault}
pub use Rattle.treefile.specs.declared.reading.FrameFault.TheVariants.{Damaged, NotATreeFile}
pub use Rattle.treefile.specs.framing.Ending.{IsBody, IsBytes, IsUsable, body_before, fits_before, greatest_body, header_bytes}
pub use Rattle.treefile.specs.framing.Ending.{is_tree_file, last_body_of, least_body, length_bytes, version_one_usable}
pub use Rattle.treefile.specs.framing.ExpectedRecords.{AreCopies, AreThere, Breaks, Child, Expects, HasNoTree, HasNoTreeWithin}
pub use Rattle.treefile.specs.framing.ExpectedRecords.{IsNoRecord, IsNodeRecord, IsRecordOf, IsTooLarge, MatchesCopy, Pending}
pub use Rattle.treefile.specs.framing.ExpectedRecords.{ReadSoFar, before_others, children_with_copies, pending_root}
pub use Rattle.treefile.specs.records.OneTree.{IsNumbered, IsRecorded}
pub use Rattle.treefile.specs.records.Orders.{joined, postfix, postfix_all, prefix, prefix_all}
pub use Rattle.treefile.specs.records.Orders as orders
pub use Rattle.treefile.specs.records.Records.{FitsVersion, IsFileOfTree, bodies_of, bodies_of_all, copies_of, copy_of}
pub use Rattle.treefile.specs.records.Records.{file_of_tree, left_synthesized, max_copied, max_copies, max_stored_values}
pub use Rattle.treefile.specs.records.Records.{node_body, synthesized_count, synthesized_passes, token_body, values_up_to}
pub use Rattle.treefile.specs.records.Records.{with_copies}
pub use Rattle.treefile.specs.records.TreeFile.{Version, body_of, file, frame, header, version_one, version_two}
