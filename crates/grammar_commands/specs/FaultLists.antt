-- `check --all` and `plan --all`: all faults of a grammar. A fault has one line, but consecutive faults N6 of one production have one
-- line together. With `--json` a line is an object. `old` and `new` are what contracts see of the run before and after. All of this
-- is this project's.
use Rattle.std.specs.Prelude.{◌≡◌, ℕ, ◌-◌, ◌<◌, ◌≤◌, ◌⊎◌, ◌==◌, nat_lt, Bool, true, false, cond, List, [], ◌∷◌, ◌++◌, map}
use Rattle.std.specs.Prelude.{Option, Some, None, codes, decimal, length, slice_get, take}
use Rattle.ag_fault.specs.Status.{status_of}
use Rattle.ag_fault.specs.declared.fault.Fault.{Fault}
use Rattle.ag_fault.specs.declared.fault.Fault.TheVariants as fault
use Rattle.ag_grammar.specs.declared.raw.RawGrammar.{RawGrammar}
use Rattle.ag_grammar.specs.grammars.AttributeGrammar.{Grammar}
use Rattle.ag_text.specs.Answers.{AreFaultsOf}
use Rattle.ag_text.specs.Grammar.{ReadsAsGrammar}
use Rattle.ag_text.specs.declared.fault.TextFault.{TextFault}
use Rattle.aggen.specs.Checking.{IsGrammarOf}
use Rattle.command_line.specs.declared.request.FaultWords.{FaultWords}
use Rattle.fault_objects.specs.Objects.{object_line, rest_line}
use Rattle.fault_objects.specs.declared.details.FaultDetails.{FaultDetails}
use Rattle.grammar_commands.specs.Listings.{IsPartFault, IsPartOf, IsRefusedPart}
use Rattle.grammar_commands.specs.declared.listings.Part.{Part}
use Rattle.grammar_commands.specs.declared.listings.Part.TheVariants as part
use Rattle.llparse.specs.declared.table.fault.TableFault.{TableFault}
use Rattle.llparse.specs.table.Conflicts.{AreConflicts}
use Rattle.messages.specs.declared.report.FaultReport.{FaultReport}
use Rattle.normalform.specs.declared.fault.NormalFault.{NormalFault}
use Rattle.normalform.specs.declared.fault.NormalFault.TheVariants as normal
use Rattle.normalform.specs.faults.AllFaults.{AreFaults}
use Rattle.passassign.specs.Answer.{IsRefused}
use Rattle.passassign.specs.Least.{IsAlternating}
use Rattle.program_io.specs.Sessions.{HasReported, IsOutputFault, State, after, read_event}
use Rattle.run_record.specs.Events.{Event, report_event, write_event}

-- the number of the production that lacks a rule, if the fault is N6
abbrev pub lacking : NormalFault → Option ℕ
lacking (normal.RuleMissing production place attribute) = Some production
lacking _ = None

-- whether a fault shares the line of the fault before: both are N6 of one production
abbrev pub is_joined : (before number : Option ℕ) → Bool
is_joined (Some before) (Some number) = before == number
is_joined _ _ = false

-- the first fault of each line; `before` is that of the last fault before these
abbrev pub lines_after : (before : Option ℕ) → List NormalFault → List Fault
lines_after before [] = []
lines_after before (f ∷ fs) =
    cond (is_joined before (lacking f)) (lines_after (lacking f) fs) (fault.Normal f ∷ lines_after (lacking f) fs)

-- these are all faults G of the text
pub record AreTextLines (text : List ℕ) (lines : List Fault) : Type 0 where
  pub faults : List TextFault
  pub are : AreFaultsOf text faults
  pub is : lines ≡ map fault.Text faults

-- the text reads as a grammar, and these are the first faults of the lines of all its faults N
pub record AreNormalLines (text : List ℕ) (lines : List Fault) : Type 0 where
  pub raw : RawGrammar
  pub faults : List NormalFault
  pub reads : ReadsAsGrammar text raw
  pub are : AreFaults raw faults
  pub is : lines ≡ lines_after None faults

-- these are all conflicts of a grammar
pub record AreConflictLines (g : Grammar) (lines : List Fault) : Type 0 where
  pub conflicts : List TableFault
  pub are : AreConflicts g conflicts
  pub is : lines ≡ map fault.Table conflicts

-- A1, if no assignment of passes is legal
abbrev pub AreStuckLines : Grammar → List Fault → Type 0
AreStuckLines g [] = IsAlternating g
AreStuckLines g (fault.Assign s ∷ []) = (s.grammar ≡ g) × IsRefused g s.stuck
AreStuckLines g _ = ⊥

-- The text is that of an accepted grammar. These are all its conflicts, and A1 if no assignment of passes is legal.
pub record ArePlanLines (text : List ℕ) (lines : List Fault) : Type 0 where
  pub grammar : Grammar
  pub is_of : IsGrammarOf text grammar
  pub first : List Fault
  pub last : List Fault
  pub conflicts : AreConflictLines grammar first
  pub stuck : AreStuckLines grammar last
  pub is : lines ≡ first ++ last

-- the first faults of the lines that a text gets: G, or else N, or else L and A if the passes are asked for
abbrev pub AreLinesOf : Part → (text : List ℕ) → (lines : List Fault) → Type 0
AreLinesOf part.Plan text lines = AreTextLines text lines ⊎ (AreNormalLines text lines ⊎ ArePlanLines text lines)
AreLinesOf _ text lines = AreTextLines text lines ⊎ AreNormalLines text lines

-- the text reads as a grammar
abbrev pub IsReadable : (text : List ℕ) → Type 0
IsReadable text = (raw : RawGrammar) × ReadsAsGrammar text raw

-- the text reads as a grammar without a fault N
abbrev pub HasNoneListed : (text : List ℕ) → Type 0
HasNoneListed text = IsReadable text × ((raw : RawGrammar) → ReadsAsGrammar text raw → AreFaults raw [])

-- the fault is none of G and N
abbrev pub IsNotListed : Fault → Type 0
IsNotListed (fault.Text f) = ⊥
IsNotListed (fault.Normal f) = ⊥
IsNotListed _ = Unit {0}

-- the screen got the line of a report of each of these faults, one after the other
abbrev pub AreReported : List Fault → (old new : State) → Type 0
AreReported [] old new = new ≡ old
AreReported (e ∷ es) old new =
    (report : FaultReport) × (next : State) × (report.fault ≡ e) × HasReported report old next × AreReported es next new

-- the last line, as `12 faults, 12 shown`
abbrev pub total_line : (count shown : ℕ) → List ℕ
total_line count shown = decimal count ++ codes " faults, " ++ decimal shown ++ codes " shown"

-- the screen got the last line if there are two lines of faults or more
abbrev pub HasTotal : (count shown : ℕ) → (old new : State) → Type 0
HasTotal count shown old new =
    (1 < count → new ≡ after (report_event true (total_line count shown)) old) × (count ≤ 1 → new ≡ old)

-- the screen got the lines of the first `most` of these faults, and the last line
abbrev pub AreListed : (most : ℕ) → List Fault → (old new : State) → Type 0
AreListed most lines old new =
    (last : State) × AreReported (take most lines) old last × HasTotal (length lines) (length (take most lines)) last new

-- the line of the object of a report
abbrev pub IsObjectLine : FaultReport → (line : List ℕ) → Type 0
IsObjectLine report line = (details : FaultDetails) × (line ≡ object_line report details)

-- the line of the object of a report of this fault
abbrev pub IsObjectOf : Fault → (line : List ℕ) → Type 0
IsObjectOf e line = (report : FaultReport) × (report.fault ≡ e) × IsObjectLine report line

-- the lines of the objects of these faults, one after the other
abbrev pub AreObjectsOf : List Fault → (lines : List ℕ) → Type 0
AreObjectsOf [] lines = lines ≡ []
AreObjectsOf (e ∷ es) lines =
    (line : List ℕ) × (others : List ℕ) × IsObjectOf e line × (lines ≡ line ++ others) × AreObjectsOf es others

-- the object with the number of the faults that have no line, if there are any
abbrev pub rest_lines : (count most : ℕ) → List ℕ
rest_lines count most = cond (nat_lt most count) (rest_line (count - most)) []

-- the lines of the objects of the first `most` of these faults, and that of the number of the others
abbrev pub AreObjects : (most : ℕ) → List Fault → (lines : List ℕ) → Type 0
AreObjects most es lines =
    (objects : List ℕ) × AreObjectsOf (take most es) objects × (lines ≡ objects ++ rest_lines (length es) most)

-- these objects were printed
abbrev pub ArePrinted : (most : ℕ) → List Fault → (old new : State) → Type 0
ArePrinted most es old new =
    (lines : List ℕ) × AreObjects most es lines × (new ≡ after (write_event true None lines) old)

-- the faults were listed: as objects if `is_json`, and otherwise on the screen
abbrev pub AreShown : (is_json : Bool) → (most : ℕ) → List Fault → (old new : State) → Type 0
AreShown true most es old new = ArePrinted most es old new
AreShown false most es old new = AreListed most es old new

-- A grammar with faults was read, and its faults listed, at most `words.most` lines. The exit status is that of the first fault.
pub record ListsFaults (part : Part) (words : FaultWords) (old new : State) (status : ℕ) : Type 0 where
  pub text : List ℕ
  pub lines : List Fault
  pub first : Fault
  pub are : AreLinesOf part text lines
  pub is_first : slice_get lines 0 ≡ Some first
  pub shown : AreShown words.is_json words.most lines (after (read_event words.grammar text) old) new
  pub is : status ≡ status_of first

-- The text has what the part selects. With `is_json` nothing was printed, and otherwise that was.
abbrev pub PrintsFaultless : Part → (is_json : Bool) → (text : List ℕ) → (old new : List Event) → Type 0
PrintsFaultless part true text old new = (lines : List ℕ) × IsPartOf part text lines × (new ≡ old)
PrintsFaultless part false text old new =
    (lines : List ℕ) × IsPartOf part text lines × (new ≡ write_event true None lines ∷ old)

-- Why what the part selects about a text was not printed: there is no such text, or printing it failed.
abbrev pub IsNotPrinted : Part → (text : List ℕ) → (old new : List Event) → Fault → Type 0
IsNotPrinted part text old new e =
    ((new ≡ old) × IsPartFault part text e)
    ⊎ ((lines : List ℕ) × IsPartOf part text lines × (new ≡ write_event false None lines ∷ old) × IsOutputFault e)

-- A grammar without faults was read. With `--json` nothing was printed, and otherwise what the part selects.
pub record IsFaultless (part : Part) (words : FaultWords) (old new : List Event) : Type 0 where
  pub text : List ℕ
  pub prints : PrintsFaultless part words.is_json text (read_event words.grammar text ∷ old) new

-- the grammar was read, or nothing happened
abbrev pub HasReadIf : FaultWords → (old new : List Event) → Type 0
HasReadIf words old new = (new ≡ old) ⊎ ((text : List ℕ) × (new ≡ read_event words.grammar text ∷ old))

-- lines could not be printed, or nothing happened
abbrev pub HasNotPrinted : (old new : List Event) → Type 0
HasNotPrinted old new = (new ≡ old) ⊎ ((lines : List ℕ) × (new ≡ write_event false None lines ∷ old))

-- why faults were not listed: refused memory, or with `is_json` their objects could not be printed
abbrev pub IsUnshown : (is_json : Bool) → (old new : List Event) → Fault → Type 0
IsUnshown true old new e = IsOutputFault e × HasNotPrinted old new
IsUnshown false old new e = (e ≡ fault.NoMemory) × (new ≡ old)

-- With `--json`: at most the grammar was read, and objects could not be printed.
pub record IsUnprinted (words : FaultWords) (old new : List Event) (e : Fault) : Type 0 where
  pub asked : words.is_json ≡ true
  pub before : List Event
  pub read : HasReadIf words old before
  pub unprinted : HasNotPrinted before new
  pub is : IsOutputFault e

-- The grammar could not be read, or has a fault that is not listed, or what there is to print could not be printed.
abbrev pub IsNoList : Part → FaultWords → (old new : List Event) → Fault → Type 0
IsNoList part words old new e = IsRefusedPart part words.grammar old new e ⊎ IsUnprinted words old new e

-- With `--json`: there was a failure, and then its object could not be printed.
pub record IsUntold (part : Part) (words : FaultWords) (old new : List Event) (e : Fault) : Type 0 where
  pub asked : words.is_json ≡ true
  pub first : Fault
  pub failed : List Event
  pub reason : IsNoList part words old failed first
  pub untold : HasNotPrinted failed new
  pub is : IsOutputFault e

-- why there is no list of faults
abbrev pub IsRefusedList : Part → FaultWords → (old new : List Event) → Fault → Type 0
IsRefusedList part words old new e = IsNoList part words old new e ⊎ IsUntold part words old new e

-- the object of a report was printed
abbrev pub PrintsObject : FaultReport → (old new : State) → Type 0
PrintsObject report old new =
    (line : List ℕ) × IsObjectLine report line × (new ≡ after (write_event true None line) old)

-- With `--json`, the object of a failure was printed, and the exit status is that of its fault.
pub record PrintsRefusal (part : Part) (words : FaultWords) (old new : State) (status : ℕ) : Type 0 where
  pub report : FaultReport
  pub failed : State
  pub asked : words.is_json ≡ true
  pub reason : IsNoList part words old.events failed.events report.fault
  pub printed : PrintsObject report failed new
  pub is : status ≡ status_of report.fault

-- the faults were listed, or there are none
abbrev pub ListsOrAccepts : Part → FaultWords → (old new : State) → (status : ℕ) → Type 0
ListsOrAccepts part words old new status =
    (IsFaultless part words old.events new.events × (status ≡ 0)) ⊎ ListsFaults part words old new status

-- `check --all` and `plan --all`
abbrev pub ListsAll : Part → FaultWords → (old new : State) → (status : ℕ) → Type 0
ListsAll part words old new status =
    ListsOrAccepts part words old new status ⊎ PrintsRefusal part words old new status
