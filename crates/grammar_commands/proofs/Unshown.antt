-- Why faults that were found are not shown.
use Rattle.std.proofs.Common.{◌≡◌, inl, inr, ℕ, Bool, true, false, List, ◌∷◌, refl, subst, sym}
use Rattle.ag_fault.specs.declared.fault.Fault.{Fault}
use Rattle.ag_fault.specs.declared.fault.Fault.TheVariants as fault
use Rattle.command_line.specs.declared.request.FaultWords.{FaultWords}
use Rattle.grammar_commands.specs.FaultLists.{IsNoList, IsUnshown}
use Rattle.grammar_commands.specs.Listings.{IsPartFault}
use Rattle.grammar_commands.specs.declared.listings.Part.{Part}
use Rattle.grammar_commands.specs.declared.listings.Part.TheVariants as part
use Rattle.program_io.specs.Sessions.{read_event}
use Rattle.run_record.specs.Events.{Event}

-- memory can be refused for each part
memory : (p : Part) (text : List ℕ) → IsPartFault p text fault.NoMemory
memory part.Counts text = tt
memory part.Plan text = tt
memory part.Code text = tt

by_form : (p : Part) (words : FaultWords) (text : List ℕ) (old new : List Event) (e : Fault) (is_json : Bool)
    → words.is_json ≡ is_json → IsUnshown is_json (read_event words.grammar text ∷ old) new e → IsNoList p words old new e
by_form p words text old new e true asked is =
    inr (record { asked = asked; before = read_event words.grammar text ∷ old; read = inr (text, refl); unprinted = is.1; is = is.0 })
by_form p words text old new e false asked is =
    inl (inr (inl (record { text = text; done = is.1; reason = subst (IsPartFault p text) (sym is.0) (memory p text) })))

-- what was not shown after a grammar was read makes no list
pub unshown : (p : Part) (words : FaultWords) (text : List ℕ) (old new : List Event) (e : Fault)
    → IsUnshown words.is_json (read_event words.grammar text ∷ old) new e → IsNoList p words old new e
unshown p words text old new e is = by_form p words text old new e words.is_json refl is
