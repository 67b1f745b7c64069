-- A tree that was read and translated, from the contracts of the steps. `made` is what contracts see of the run after translating,
-- `closed` after the tree's device was closed, and `new` after writing. `lent` are the bytes of the text as they are lent to a call.
use Rattle.std.proofs.Common.{◌≡◌, ◌++◌, inr, ℕ, Bool, true, List, ◌∷◌, Option, Result, Ok, Err, ap, sym, subst, ◌∙◌}
use Rattle.std.specs.Prelude.{is_ok}
use Rattle.std.specs.Result.{IfErr, IsErrAnd, OnOk}
use Rattle.std.specs.Borrow.{Bor}
use Rattle.ag_fault.specs.declared.fault.Fault.{Fault}
use Rattle.ag_grammar.specs.grammars.AttributeGrammar.{Grammar}
use Rattle.command_line.specs.declared.input.InputPath.{InputPath}
use Rattle.command_line.specs.declared.input.InputPath.TheVariants as input
use Rattle.messages.specs.declared.report.FaultReport.{FaultReport}
use Rattle.noted_file.specs.Calls.{Event as Call, replay}
use Rattle.program_io.specs.Sessions.{IsOutputFault, State, after}
use Rattle.run_record.specs.Events.{Event, open_event, write_event}
use Rattle.translation_commands.specs.Evaluations.{Evaluated, HasEvaluated, IsUnevaluatedFile, IsWritten, OfTree}
use Rattle.translation_commands.specs.Runs.{opened}

pub is_written : (ok : Bool) (g : Grammar) (work output : Option (List ℕ)) (honest : Bool) (content text lent : List ℕ)
    (events : List Event) (closed new : State)
    → lent ≡ text → closed.events ≡ opened work events → new ≡ after (write_event ok output lent) closed
    → Evaluated g work honest content closed text → IsWritten ok g work output new honest content events
is_written ok g work output honest content text lent events closed new same second last was = record {
  text = text;
  done =
      ap (λ (s : State). s.events) last
      ∙ (ap (λ (w : List ℕ). write_event ok output w ∷ closed.events) same
      ∙ ap (λ (es : List Event). write_event ok output text ∷ es) second);
  is = subst (λ (s : State). Evaluated g work honest content s text) (sym last) was;
}

-- what holds of the device of a file holds of the record of its calls
pub of_file : (from : InputPath) (path : Bor (List ℕ)) (events : List Event) (new : State) (calls : List Call)
    (content rest : List ℕ) (P : Bool → List ℕ → List Event → Type 0)
    → from ≡ input.File path → new.tree ≡ calls → ((replay calls).is_honest ≡ true → (replay calls).stored ++ rest ≡ content)
    → P (replay calls).is_honest content (open_event path.now ∷ events) → OfTree from events new P
of_file from path events new calls content rest P is kept same holds =
    subst (λ (x : InputPath). OfTree x events new P) (sym is) (record {
      honest = (replay calls).is_honest;
      content = content;
      rest = rest;
      still = λ h. subst (λ (cs : List Call). (replay cs).is_honest ≡ true) kept h;
      is = λ h.
          subst (λ (cs : List Call). content ≡ (replay cs).stored ++ rest) (sym kept)
          (sym (same (subst (λ (cs : List Call). (replay cs).is_honest ≡ true) kept h)));
      then = holds;
    })

-- the tree of a file was translated, and its translation given to an output
pub file_written : (ok : Bool) (g : Grammar) (work output : Option (List ℕ)) (from : InputPath) (path : Bor (List ℕ))
    (old read made closed new : State) (calls : List Call) (content rest text lent : List ℕ)
    → from ≡ input.File path → read ≡ after (open_event path.now) old → made.events ≡ opened work read.events
    → Evaluated g work (replay calls).is_honest content made text
    → ((replay calls).is_honest ≡ true → (replay calls).stored ++ rest ≡ content)
    → closed ≡ record made { tree = calls } → lent ≡ text → new ≡ after (write_event ok output lent) closed
    → OfTree from old.events new (IsWritten ok g work output new)
file_written ok g work output from path old read made closed new calls content rest text lent is first second was same closing sent last =
    of_file from path old.events new calls content rest (IsWritten ok g work output new) is
    (ap (λ (s : State). s.tree) last ∙ ap (λ (s : State). s.tree) closing) same
    (is_written ok g work output (replay calls).is_honest content text lent (open_event path.now ∷ old.events) closed new sent
    (ap (λ (s : State). s.events) closing ∙ (second ∙ ap (λ (s : State). opened work s.events) first)) last
    (subst (λ (s : State). Evaluated g work (replay calls).is_honest content s text) (sym closing) was))

-- the tree of an input was translated, and writing its translation succeeded or failed
pub has_evaluated : (g : Grammar) (work output : Option (List ℕ)) (from : InputPath) (events : List Event) (new : State)
    (r : Result (Unit {0}) FaultReport)
    → OfTree from events new (IsWritten (is_ok r) g work output new) → OnOk r (HasEvaluated g work from output events new)
has_evaluated g work output from events new (Ok u) is = is
has_evaluated g work output from events new (Err e) is = tt

pub not_written : (g : Grammar) (work output : Option (List ℕ)) (from : InputPath) (events : List Event) (new : State)
    (r : Result (Unit {0}) FaultReport)
    → OfTree from events new (IsWritten (is_ok r) g work output new) → IfErr r (λ report. IsOutputFault report.fault)
    → IfErr r (λ report. IsUnevaluatedFile g work from output events new report.fault)
not_written g work output from events new (Ok u) is fault = tt
not_written g work output from events new (Err e) is fault = inr (inr (is, fault))

-- a report that `?` passes on
pub passed_on : (P : Fault → Type 0) (r : Result (Unit {0}) FaultReport) (told : FaultReport) → IsErrAnd r (λ x. x ≡ told)
    → P told.fault → IfErr r (λ report. P report.fault)
passed_on P (Ok u) told is holds = tt
passed_on P (Err report) told is holds = subst (λ (x : FaultReport). P x.fault) (sym is) holds
