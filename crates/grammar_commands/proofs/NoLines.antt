-- What an empty list of lines says of a text.
use Rattle.std.proofs.Common.{◌≡◌, ◌≢◌, ◌⊎◌, inl, inr, slice_get, ℕ, List, [], ◌∷◌, None, Some, refl, subst}
use Rattle.ag_fault.specs.declared.fault.Fault.{Fault}
use Rattle.ag_fault.specs.declared.fault.Fault.TheVariants as fault
use Rattle.ag_grammar.specs.declared.raw.RawGrammar.{RawGrammar}
use Rattle.ag_text.proofs.Agree.{one_grammar}
use Rattle.ag_text.specs.Answers.{IsRefused}
use Rattle.ag_text.specs.Grammar.{ReadsAsGrammar, ReadsAsNone}
use Rattle.ag_text.specs.declared.fault.TextFault.{TextFault}
use Rattle.ag_text.specs.declared.fault.TextFault.TheVariants as text_fault
use Rattle.aggen.specs.Checking.{IsCheckFault, IsNormalFaultOf, IsTextFaultOf}
use Rattle.aggen.specs.Listing.{IsTranslatorFault}
use Rattle.grammar_commands.specs.FaultLists.{AreLinesOf, HasNoneListed, IsNotListed, IsReadable, lines_after}
use Rattle.grammar_commands.specs.Listings.{IsPartFault}
use Rattle.grammar_commands.specs.declared.listings.Part.{Part}
use Rattle.grammar_commands.specs.declared.listings.Part.TheVariants as part
use Rattle.normalform.proofs.found.Searched.{none_listed}
use Rattle.normalform.proofs.numbered.Accepting.{first_excludes}
use Rattle.normalform.specs.declared.fault.NormalFault.{NormalFault}
use Rattle.normalform.specs.faults.AllFaults.{AreFaults}

-- a text that is refused, but not for memory, reads as no grammar
reads_none : (text : List ℕ) (f : TextFault) → f ≢ text_fault.NoMemory → IsRefused text f → ReadsAsNone text
reads_none text text_fault.NoMemory other is = absurd (other refl)
reads_none text text_fault.TooLong other is = is
reads_none text (text_fault.BadUtf8 at) other is = is
reads_none text (text_fault.Unexpected line at) other is = is
reads_none text (text_fault.Expr f) other is = is

-- a text without a listed fault is not refused by G, nor by N
not_text : (text : List ℕ) (f : TextFault) → HasNoneListed text → IsTextFaultOf text f → ⊥
not_text text f none is = reads_none text f is.of_text is.refused none.0.0 none.0.1

not_normal : (text : List ℕ) (f : NormalFault) → HasNoneListed text → IsNormalFaultOf text f → ⊥
not_normal text f none is = first_excludes is.raw f is.first (none_listed is.raw (none.1 is.raw is.reads))

of_check : (text : List ℕ) (e : Fault) → HasNoneListed text → IsCheckFault text e → IsNotListed e
of_check text (fault.Text f) none is = not_text text f none is
of_check text (fault.Normal f) none is = not_normal text f none is
of_check text fault.Usage none is = tt
of_check text fault.File none is = tt
of_check text (fault.Expr f) none is = tt
of_check text (fault.Table f) none is = tt
of_check text (fault.Assign f) none is = tt
of_check text (fault.Scan f) none is = tt
of_check text (fault.Parse f) none is = tt
of_check text (fault.Run f) none is = tt
of_check text (fault.Job f) none is = tt
of_check text (fault.NoText v) none is = tt
of_check text fault.NotATreeFile none is = tt
of_check text (fault.Damaged v) none is = tt
of_check text fault.Device none is = tt
of_check text fault.Write none is = tt
of_check text fault.NoMemory none is = tt

of_translator : (text : List ℕ) (e : Fault) → HasNoneListed text → IsTranslatorFault text e → IsNotListed e
of_translator text (fault.Text f) none is = not_text text f none is
of_translator text (fault.Normal f) none is = not_normal text f none is
of_translator text fault.Usage none is = tt
of_translator text fault.File none is = tt
of_translator text (fault.Expr f) none is = tt
of_translator text (fault.Table f) none is = tt
of_translator text (fault.Assign f) none is = tt
of_translator text (fault.Scan f) none is = tt
of_translator text (fault.Parse f) none is = tt
of_translator text (fault.Run f) none is = tt
of_translator text (fault.Job f) none is = tt
of_translator text (fault.NoText v) none is = tt
of_translator text fault.NotATreeFile none is = tt
of_translator text (fault.Damaged v) none is = tt
of_translator text fault.Device none is = tt
of_translator text fault.Write none is = tt
of_translator text fault.NoMemory none is = tt

pub not_listed : (p : Part) (text : List ℕ) (e : Fault) → HasNoneListed text → IsPartFault p text e → IsNotListed e
not_listed part.Counts text e none is = of_check text e none is
not_listed part.Plan text e none is = of_translator text e none is
not_listed part.Code text e none is = of_translator text e none is

-- faults without a line are no faults
pub none_without_line : (faults : List NormalFault) → lines_after None faults ≡ [] → faults ≡ []
none_without_line [] is = refl
none_without_line (f ∷ fs) is = cc

-- if the grammar that the text reads as has no fault, no grammar that it reads as has one
pub none_of_text : (text : List ℕ) (raw : RawGrammar) → ReadsAsGrammar text raw → AreFaults raw [] → HasNoneListed text
none_of_text text raw reads none =
    ((raw, reads), λ other also. subst (λ (r : RawGrammar). AreFaults r []) (one_grammar text raw other reads also) none)

-- if there is a first line, the lines are those of the text's faults
pub some_lines : (p : Part) (text : List ℕ) (lines : List Fault) (first : Fault) → slice_get lines 0 ≡ Some first
    → (lines ≡ []) ⊎ AreLinesOf p text lines → AreLinesOf p text lines
some_lines p text lines first start (inr are) = are
some_lines p text [] first start (inl none) = cc
some_lines p text (e ∷ es) first start (inl none) = cc
