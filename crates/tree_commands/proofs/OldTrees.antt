-- A tree file that was converted, from the contracts of the steps. What contracts see of the run is `opened` after the old file was
-- opened, `made` after the conversion, `closed` after the old file's device was closed, and `new` after printing. `first` are the
-- calls on the old file that the conversion made, and `calls` all of them.
use Rattle.std.proofs.Common.{◌≡◌, ◌++◌, inl, inr, ℕ, Bool, true, false, List, ◌∷◌, None, Result, Ok, Err, ap, sym, subst, ◌∙◌}
use Rattle.std.specs.Result.{IfErr, OnOk}
use Rattle.ag_fault.specs.declared.fault.Fault.{Fault}
use Rattle.ag_grammar.specs.grammars.AttributeGrammar.{Grammar}
use Rattle.aggen_files.specs.Trees.{UpgradesFile}
use Rattle.agoutput.specs.Lines.{nodes_line}
use Rattle.command_line.specs.declared.request.UpgradePaths.{UpgradePaths}
use Rattle.messages.specs.declared.report.FaultReport.{FaultReport}
use Rattle.noted_file.specs.Calls.{Event as Call, replay}
use Rattle.program_io.specs.Sessions.{State, after}
use Rattle.run_record.specs.Events.{Event, open_event, write_event}
use Rattle.tree_commands.specs.TreeFiles.{HasConverted, IsConverted, IsUnconverted, IsUnconvertedTree, IsUnprinted, OfOldTree}

-- what holds of the device of the old file holds of the record of its calls
pub of_old_tree : (paths : UpgradePaths) (events : List Event) (new : State) (calls : List Call) (honest : Bool)
    (content rest : List ℕ) (P : (honest : Bool) → (content : List ℕ) → List Event → Type 0)
    → new.a ≡ calls → ((replay calls).is_honest ≡ true → honest ≡ true)
    → ((replay calls).is_honest ≡ true → content ≡ (replay calls).stored ++ rest)
    → P honest content (open_event paths.old.now ∷ events) → OfOldTree paths events new P
of_old_tree paths events new calls honest content rest P kept still same is = record {
  honest = honest;
  content = content;
  rest = rest;
  still = λ h. still (subst (λ (cs : List Call). (replay cs).is_honest ≡ true) kept h);
  is = λ h.
      subst (λ (cs : List Call). content ≡ (replay cs).stored ++ rest) (sym kept)
      (same (subst (λ (cs : List Call). (replay cs).is_honest ≡ true) kept h));
  then = is;
}

-- the events after a conversion
events_of : (g : Grammar) (paths : UpgradePaths) (old opened made closed : State) (calls : List Call)
    → opened ≡ after (open_event paths.old.now) old → made.events ≡ open_event paths.tree.now ∷ opened.events
    → closed ≡ record made { a = calls }
    → closed.events ≡ open_event paths.tree.now ∷ (open_event paths.old.now ∷ old.events)
events_of g paths old opened made closed calls first second third =
    ap (λ (s : State). s.events) third
    ∙ (second ∙ ap (λ (s : State). open_event paths.tree.now ∷ s.events) first)

converted : (g : Grammar) (paths : UpgradePaths) (old made closed new : State) (calls : List Call) (content rest : List ℕ)
    (count : ℕ) (P : ℕ → List Event → Type 0)
    → closed ≡ record made { a = calls } → new.a ≡ closed.a → new.tree ≡ closed.tree
    → UpgradesFile g (replay calls).is_honest content (replay made.tree).is_honest (replay made.tree).stored count
    → ((replay calls).is_honest ≡ true → (replay calls).stored ++ rest ≡ content)
    → P count (open_event paths.tree.now ∷ (open_event paths.old.now ∷ old.events))
    → OfOldTree paths old.events new (IsConverted g paths new P)
converted g paths old made closed new calls content rest count P third kept same_tree was same is =
    of_old_tree paths old.events new calls (replay calls).is_honest content rest (IsConverted g paths new P)
    (kept ∙ ap (λ (s : State). s.a) third) (λ h. h) (λ h. sym (same h)) (record {
      count = count;
      is =
          subst (λ (cs : List Call). UpgradesFile g (replay calls).is_honest content (replay cs).is_honest (replay cs).stored count)
          (sym (same_tree ∙ ap (λ (s : State). s.tree) third)) was;
      then = is;
    })

module _ (g : Grammar) (paths : UpgradePaths) (old opened made closed new : State) (calls : List Call) (content rest : List ℕ)
    (count : ℕ) (first : opened ≡ after (open_event paths.old.now) old)
    (second : made.events ≡ open_event paths.tree.now ∷ opened.events) (third : closed ≡ record made { a = calls })
    (was : UpgradesFile g (replay calls).is_honest content (replay made.tree).is_honest (replay made.tree).stored count)
    (same : (replay calls).is_honest ≡ true → (replay calls).stored ++ rest ≡ content) where
  has_converted : new ≡ after (write_event true None (nodes_line count)) closed → HasConverted g paths old.events new
  has_converted last =
      converted g paths old made closed new calls content rest count
      (λ n written. new.events ≡ write_event true None (nodes_line n) ∷ written) third
      (ap (λ (s : State). s.a) last) (ap (λ (s : State). s.tree) last) was same
      (ap (λ (s : State). s.events) last
      ∙ ap (λ (es : List Event). write_event true None (nodes_line count) ∷ es)
      (events_of g paths old opened made closed calls first second third))

  unprinted : (e : Fault) → IsUnprinted count closed new e → IsUnconverted g paths old.events new e
  unprinted e (inl is) = inr (inr (
      converted g paths old made closed new calls content rest count
      (λ n written. IsUnprinted n (record new { events = written }) new e) third (ap (λ (s : State). s.a) is.0)
      (ap (λ (s : State). s.tree) is.0) was same
      (inl (
        ap (λ (es : List Event). record new { events = es })
            (ap (λ (s : State). s.events) is.0 ∙ events_of g paths old opened made closed calls first second third),
        is.1,
      ))
      ))
  unprinted e (inr is) = inr (inr (
      converted g paths old made closed new calls content rest count
      (λ n written. IsUnprinted n (record new { events = written }) new e) third (ap (λ (s : State). s.a) is.0)
      (ap (λ (s : State). s.tree) is.0) was same
      (inr (
        ap (λ (es : List Event). record new { events = es })
            (ap (λ (s : State). s.events) is.0
            ∙ ap (λ (es : List Event). write_event false None (nodes_line count) ∷ es)
            (events_of g paths old opened made closed calls first second third)),
        is.1,
      ))
      ))

  pub all_converted : (r : Result (Unit {0}) FaultReport)
      → OnOk r (new ≡ after (write_event true None (nodes_line count)) closed) → OnOk r (HasConverted g paths old.events new)
  all_converted (Ok u) last = has_converted last
  all_converted (Err e) last = tt

  pub none_printed : (r : Result (Unit {0}) FaultReport)
      → IfErr r (λ report. IsUnprinted count closed new report.fault)
      → IfErr r (λ report. IsUnconverted g paths old.events new report.fault)
  none_printed (Ok u) is = tt
  none_printed (Err report) is = unprinted report.fault is

-- why the old file was not converted. `between` are the calls on the old file after the conversion.
pub unconverted : (g : Grammar) (paths : UpgradePaths) (old opened made closed : State) (calls between : List Call)
    (content middle rest : List ℕ) (e : Fault)
    → opened ≡ after (open_event paths.old.now) old → closed ≡ record made { a = calls }
    → IsUnconvertedTree g paths.tree.now (replay between).is_honest content opened.events made.events e
    → ((replay between).is_honest ≡ true → middle ≡ content)
    → ((replay calls).is_honest ≡ true → (replay between).is_honest ≡ true)
    → ((replay calls).is_honest ≡ true → (replay calls).stored ++ rest ≡ middle)
    → IsUnconverted g paths old.events closed e
unconverted g paths old opened made closed calls between content middle rest e first third was same still later = inr (inl (
    of_old_tree paths old.events closed calls (replay between).is_honest content rest
    (λ honest bytes so_far. IsUnconvertedTree g paths.tree.now honest bytes so_far closed.events e)
    (ap (λ (s : State). s.a) third) still (λ h. sym (same (still h)) ∙ sym (later h))
    (subst (λ (s : State). IsUnconvertedTree g paths.tree.now (replay between).is_honest content s.events closed.events e) first
    (subst (λ (s : State). IsUnconvertedTree g paths.tree.now (replay between).is_honest content opened.events s.events e)
    (sym third) was))
    ))
