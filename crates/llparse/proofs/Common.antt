-- What several files of these proofs use.
pub use Rattle.std.proofs.Common.{All, Bool, Contains, Err, List, None, Ok, Option, Result, Some, [], add-one, ap, append-nil}
pub use Rattle.std.proofs.Common.{append_assoc, arith, drop, false, get_or, inl, inr, is_some, length, map, max, option_map, refl}
pub use Rattle.std.proofs.Common.{reverse, rules, set, slice_get, subst, suc, sym, take, take_all, true, zero, ℕ, ◌&&◌, ◌*◌, ◌++◌}
pub use Rattle.std.proofs.Common.{◌+◌, ◌-◌, ◌<◌, ◌||◌, ◌↔◌, ◌∙◌, ◌∷◌, ◌≡◌, ◌≤◌, ◌⊎◌}
pub use Rattle.std.proofs.lemmas.Bool.{cases_eq, false≢true}
pub use Rattle.std.proofs.lemmas.List.{drop_all, drop_more, get_or_append_left, get_or_push, length-map, length-reverse}
pub use Rattle.std.proofs.lemmas.List.Elements.{All-cons, All-nil, Contains-append_right, Contains-get_or}
pub use Rattle.std.proofs.lemmas.Option.{get_or_from_slice_get, same_Some, slice_get-get_or, slice_get_within}
pub use Rattle.std.proofs.lemmas.Result.{err_from_is_err_and}
pub use Rattle.std.specs.Prelude.{IfErr, IfOk, OnOk, if◌then◌else◌}
pub use Rattle.ag_grammar.specs.declared.grammar.Item.{Item}
pub use Rattle.ag_grammar.specs.declared.grammar.Item.TheVariants as item
pub use Rattle.ag_grammar.specs.declared.grammar.Production.{Production}
pub use Rattle.ag_grammar.specs.declared.grammar.Terminal.{Terminal}
pub use Rattle.ag_grammar.specs.declared.grammar.Terminal.TheVariants.{Class, Literal}
pub use Rattle.ag_grammar.specs.grammars.Accepted.{IsAccepted, IsNamedItem, max_children}
pub use Rattle.ag_grammar.specs.grammars.AttributeGrammar.{Grammar, IsProduction, literal_text, stored_items}
pub use Rattle.ag_grammar.specs.grammars.Tree.{Fits, FitsAll, Forest, IsTokenText, IsTreeOf, Tree, deepest, depth_of, leaf}
pub use Rattle.ag_grammar.specs.grammars.Tree.{max_depth, max_nodes, more, node, node_count, node_counts, none}
pub use Rattle.ag_grammar.specs.grammars.Yield.{Lexeme, yield_along, yield_of}
pub use Rattle.ag_scan.proofs.Lefts.{ended, following, rest_at, rest_none}
pub use Rattle.ag_scan.specs.TokenReader.{TokenReader, offset_at, reader_at, token_of}
pub use Rattle.ag_scan.specs.Tokens.{Token}
pub use Rattle.ag_value.specs.Well.{IsWell}
pub use Rattle.ag_value.specs.declared.value.Value.{Text, Value}
pub use Rattle.closure.proofs.Positions.{at_mapped, element_at, mapped_at, position_of_element}
pub use Rattle.closure.proofs.Reached.{reached_in, step}
pub use Rattle.closure.specs.Clauses.{Clauses, IsClauseBelow}
pub use Rattle.closure.specs.Following.{Follows, is_marked, seed}
pub use Rattle.closure.specs.Waiting.{rows}
pub use Rattle.closure.specs.declared.edges.Edge.{Edge}
pub use Rattle.llparse.specs.Ahead.{AreNullable, HasNoConflict, InFirst, InFirstOf, InFollow, IsConflict, IsInFirstOf, IsNullable}
pub use Rattle.llparse.specs.Ahead.{Predicts, a_symbol, ahead_of, at_end, by_production, here, inside, last, later, next, nothing}
pub use Rattle.llparse.specs.Ahead.{of_production}
pub use Rattle.llparse.specs.declared.ahead.Ahead.{Ahead}
pub use Rattle.llparse.specs.declared.ahead.Ahead.TheVariants as ahead
pub use Rattle.llparse.specs.declared.sentence.parse_fault.ParseFault.{ParseFault}
pub use Rattle.llparse.specs.declared.sentence.parse_fault.ParseFault.TheVariants as fault
pub use Rattle.llparse.specs.declared.sentence.parser.OpenProduction.{OpenProduction}
pub use Rattle.llparse.specs.declared.sentence.parser.Parser.{Parser}
pub use Rattle.llparse.specs.declared.table.choosing.Pair.{Pair}
pub use Rattle.llparse.specs.sentence.Opened.{Completes, Continues, ContinuesWith, FitsStack, IsCutAt, IsNext, IsStack, Open}
pub use Rattle.llparse.specs.sentence.Opened.{joined, open_at, opened}
pub use Rattle.llparse.specs.sentence.Parsing.{Agrees, AtItem, AtSymbol, Between, Finished, IsParsed, IsRefused, IsTooDeep}
pub use Rattle.llparse.specs.sentence.Parsing.{IsTooLarge, IsTreeAfter, Output, Reading, Shows, Task, forest_frames, kept}
pub use Rattle.llparse.specs.sentence.Parsing.{leaf_frame, node_frame, right_side, steps_left, task_of, total_length, tree_frames}
pub use Rattle.llparse.specs.sentence.Parsing.{written}
pub use Rattle.llparse.specs.sentence.Sentences.{IsStuckAt, IsTreeWith, LeavesOnly, words_of}
pub use Rattle.llparse.specs.sentence.Turns.{Advances, IsAtItem, IsAtSymbol, IsBetween, IsFull, advanced, left_of, output_of}
pub use Rattle.llparse.specs.table.CanStart.{AreFollowMarks, IsFollowEdge, IsFollowSeed, OfRest, all_nullable, can_start_in}
pub use Rattle.llparse.specs.table.Edges.{Adds, InFirstOfItem, IsEdge, IsFirstEdge, IsKnownAhead, OfSome, node_in, starting_items}
pub use Rattle.llparse.specs.table.Nodes.{index_of, node_of}
pub use Rattle.llparse.specs.table.Nullable.{clause_of, clauses_of, is_nullable_item}
pub use Rattle.llparse.specs.table.Predicted.{AreConflicting, AreEarliestFrom, ArePredicted, IsLeastFrom, IsMarkedOf, choice_at}
pub use Rattle.llparse.specs.table.Tables.{Choices, FitsGrammar, IsChoice, IsLeastConflict, choice_of, is_known}
pub use Rattle.treefile.proofs.framing.Beginning.{added, frames_begin, none_added, one_added, one_refused}
pub use Rattle.treefile.proofs.records.FirstFile.{is_first_file, text_well}
pub use Rattle.treefile.proofs.records.Records.{is_body}
pub use Rattle.treefile.specs.devices.Device.{Persists, WhenHonest}
pub use Rattle.treefile.specs.framing.Beginning.{AddsFrames, BeginsFile}
pub use Rattle.treefile.specs.records.FirstFile.{IsFirstFile, first_bodies, first_bodies_all, leaf_texts}
pub use Rattle.treefile.specs.records.Records.{token_body}
pub use Rattle.treefile.specs.records.TreeFile.{body_of, frame, header, version_two}
