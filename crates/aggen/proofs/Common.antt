-- What several files of these proofs use.
pub use Rattle.std.proofs.Common.{Bool, Err, List, None, Ok, Option, Result, Some, [], ap, append-nil, arith, cond, false}
pub use Rattle.std.proofs.Common.{inl, inr, length, not, refl, subst, suc, sym, true, zero, ℕ, ◌*◌, ◌+◌}
pub use Rattle.std.proofs.Common.{◌-◌, ◌<◌, ◌==◌, ◌∙◌, ◌∷◌, ◌≡◌, ◌≤◌}
pub use Rattle.std.proofs.lemmas.Bool.{and_parts, cases_lt}
pub use Rattle.std.specs.Io.KnownBytes.{Appends}
pub use Rattle.std.specs.Prelude.{IsErrOf}
pub use Rattle.ag_fault.specs.Faults.{build_fault_of, build_fault_of_table, device_fault_of, expr_fault_of, frame_fault_of}
pub use Rattle.ag_fault.specs.Faults.{job_fault_of, listing_fault_of, out_fault_of, parse_fault_of, run_fault_of, scan_fault_of}
pub use Rattle.ag_fault.specs.declared.build_fault.BuildFault.{BuildFault}
pub use Rattle.ag_fault.specs.declared.fault.Fault.{Fault}
pub use Rattle.ag_fault.specs.declared.fault.Fault.TheVariants as fault
pub use Rattle.ag_grammar.proofs.grammars.Running.{run_is_the_solution}
pub use Rattle.ag_grammar.specs.Lists.{Each}
pub use Rattle.ag_grammar.specs.grammars.Accepted.{IsAccepted, IsSeparator, class_count}
pub use Rattle.ag_grammar.specs.grammars.AttributeGrammar.{Grammar}
pub use Rattle.ag_grammar.specs.grammars.Counts.{rules_of_pass, sum_of_passes}
pub use Rattle.ag_grammar.specs.grammars.Passes.{IsLegal, Passes, direction_of}
pub use Rattle.ag_grammar.specs.grammars.Running.{IsLastPass}
pub use Rattle.ag_grammar.specs.grammars.Solution.{IsTranslation, OfPass, Same, Solves, Valuation}
pub use Rattle.ag_grammar.specs.grammars.Tree.{IsTreeOf, IsWithinLimits, Tree, depth_of, max_depth, max_nodes, node_count}
pub use Rattle.ag_scan.specs.declared.fault.ScanFault.{ScanFault}
pub use Rattle.ag_scan.specs.declared.fault.ScanFault.TheVariants as scan
pub use Rattle.ag_value.specs.Well.{IsWell}
pub use Rattle.ag_value.specs.declared.value.Value.{Text, Value}
pub use Rattle.aggen.specs.Building.{IsBuildFault, IsLeastPlan}
pub use Rattle.aggen.specs.Checking.{IsGrammarOf, TextsAreReadable}
pub use Rattle.aggen.specs.Sentences.{HasNoTree, IsParseFault, IsSentenceFault, IsTreeOfSentence}
pub use Rattle.aggen.specs.declared.translations.report.Report.{Report}
pub use Rattle.agoutput.specs.Writing.{AppendsBeginning}
pub use Rattle.agoutput.specs.declared.out_fault.OutFault.{OutFault}
pub use Rattle.agoutput.specs.declared.out_fault.OutFault.TheVariants as out
pub use Rattle.pass_rows.specs.declared.run_fault.RunFault.{RunFault}
pub use Rattle.pass_rows.specs.declared.run_fault.RunFault.TheVariants as run
pub use Rattle.passassign.specs.Least.{IsLeast}
pub use Rattle.passassign.specs.Rows.{IsGreatest, passes_of}
pub use Rattle.passcode.specs.Rows.{Lists}
pub use Rattle.passcode.specs.Settings.{setting_of}
pub use Rattle.passrun.proofs.Totals.{greatest_is_last}
pub use Rattle.passrun.proofs.course.Stepping.{left_again}
pub use Rattle.passrun.specs.Passed.{IsPassed}
pub use Rattle.passrun.specs.Rounds.{HasCounted, HasRunAll, LeavesSomeFile, last_content, other_content, other_last}
pub use Rattle.passrun.specs.declared.last.Last.{Last}
pub use Rattle.passrun.specs.declared.passing.ends.Passed.{Passed}
pub use Rattle.passrun.specs.passing.Ahead.{IsRunFault}
pub use Rattle.planchecker.specs.Plans.{IsPlan}
pub use Rattle.roottext.specs.Roots.{IsRootText, IsWellText, MatchesRoot}
pub use Rattle.tree_upgrade.specs.upgrading.Upgrading.{IsUpgradeFault}
pub use Rattle.treefile.proofs.records.FirstFile.{first_file_of, unassigned_from_one}
pub use Rattle.treefile.proofs.records.Records.{file_fits, is_body}
pub use Rattle.treefile.proofs.records.Texts.{texts_are_given}
pub use Rattle.treefile.specs.Runs.{HasRun}
pub use Rattle.treefile.specs.declared.body.Kind.TheVariants.{Token}
pub use Rattle.treefile.specs.declared.device.DeviceFault.{DeviceFault}
pub use Rattle.treefile.specs.devices.Device.{WhenHonest}
pub use Rattle.treefile.specs.framing.Beginning.{BeginsFile, LeavesBeginning}
pub use Rattle.treefile.specs.framing.Ending.{ReadsAs, last_body_of, version_two_usable}
pub use Rattle.treefile.specs.records.FirstFile.{IsFirstFile, no_passes}
pub use Rattle.treefile.specs.records.Records.{IsFileOfTree, bodies_of}
pub use Rattle.treefile.specs.records.TreeFile.{Version, body_of, file, version_two}
