-- The meaning of the faults of building a translator for the text, and the plan of a translator.
use Rattle.aggen.proofs.Common
use Common.{◌≡◌, ℕ, List, Result, Ok, Err, refl, IsErrOf, Grammar, IsLeast, passes_of, Lists, IsPlan, IsBuildFault}
use Common.{IsLeastPlan, IsGrammarOf, build_fault_of_table, listing_fault_of, Fault}
use Common.fault
use Rattle.std.specs.Result.{IsErr, IsErrAnd}
use Rattle.agoutput.specs.declared.fault.ListingFault.{ListingFault}
use Rattle.agoutput.specs.declared.fault.ListingFault.TheVariants as listing
use Rattle.llparse.specs.table.Tables.{IsLeastConflict}
use Rattle.llparse.specs.declared.ahead.Ahead.{Ahead}
use Rattle.llparse.specs.declared.table.fault.TableFault.{TableFault}
use Rattle.llparse.specs.declared.table.fault.TableFault.TheVariants as table
use Rattle.passcode.specs.Listing.{AreGeneratedLists}
use Rattle.passcode.specs.Settings.{EvaluationPlan}
use Rattle.aggen.specs.Listing.{HoldsOfPlan}

-- a conflict of the grammar of a text is one of the text
pub conflict_exact : {T : Type 0} {t : List ℕ} {g : Grammar} → IsGrammarOf t g → (f : TableFault)
    → ((symbol first second : ℕ) (x : Ahead) → IsErrOf {T = T} (Err f) (table.Conflict symbol first second x)
    → IsLeastConflict g symbol first second x) → IsBuildFault t (build_fault_of_table f)
conflict_exact {g} is (table.Conflict symbol first second ahead) least = (g, is, least symbol first second ahead refl)
conflict_exact is table.NoMemory least = tt

pub least_plan : (g : Grammar) (rows : List (List ℕ)) (code : Lists) (p : EvaluationPlan)
    → p ≡ record { assignment = rows; code = code } → IsPlan g rows code → IsLeast g (passes_of rows)
    → AreGeneratedLists g (passes_of rows) code → IsLeastPlan g p.assignment p.code
least_plan g rows code p is plan least lists =
    rw is (record { plan = plan; least = least; lists = lists })

pub of_plan : (P : Grammar → List (List ℕ) → Lists → Type 0) (text : List ℕ) (g : Grammar) (rows : List (List ℕ)) (code : Lists)
    → IsGrammarOf text g → IsLeastPlan g rows code → P g rows code → HoldsOfPlan text P
of_plan P text g rows code is plan holds = record { grammar = g; rows = rows; code = code; is = is; plan = plan; holds = holds }

-- if a fault of writing a listing is O2 as a fault of the program, it is `Write`
pub write_exact : {A B : Type 0} (e : ListingFault) (r : Result A Fault) → IsErr r × IsErrAnd r (λ y. y ≡ listing_fault_of e)
    → IsErrOf r fault.Write → IsErrOf {T = B} (Err e) listing.Write
write_exact e (Ok x) exit is = absurd exit.1
write_exact listing.Write (Err y) exit is = refl
write_exact listing.NoMemory (Err y) exit is = absurd (cc exit.1)
