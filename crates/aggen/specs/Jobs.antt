-- The translation of a job. The meaning of its faults, for the bytes of the reader, for the text of the grammar, and for the
-- sentence. `honest_a` (ha) and `honest_b` (hb) say whether the two devices are honest. The other arguments are those of
-- `Translating.antt`. All of this is this project's.
use Rattle.std.specs.Prelude.{◌≡◌, ◌⊎◌, List, ℕ, Bool, Option}
use Rattle.std.specs.Option.{IfSome}
use Rattle.ag_grammar.specs.grammars.AttributeGrammar.{Grammar}
use Rattle.ag_job.specs.Jobs.{IsJob, IsJobFault}
use Rattle.ag_job.specs.declared.fault.JobFault.{JobFault}
use Rattle.aggen.specs.Building.{IsBuildFault}
use Rattle.aggen.specs.Checking.{IsGrammarOf}
use Rattle.ag_fault.specs.Faults.{build_fault_of, job_fault_of}
use Rattle.aggen.specs.Translating.{IsTranslationFault, LeavesLastFiles, TranslatesSentence}
use Rattle.ag_fault.specs.declared.build_fault.BuildFault.{BuildFault}
use Rattle.ag_fault.specs.declared.fault.Fault.{Fault}
use Rattle.ag_fault.specs.declared.fault.Fault.TheVariants as fault
use Rattle.aggen.specs.declared.translations.report.Report.{Report}

-- The bytes of a reader, if they are known, are a job with this text of a grammar and this sentence. If they are not known,
-- nothing is claimed.
abbrev pub HasJob : Option (List ℕ) → (text sentence : List ℕ) → Type 0
HasJob known text sentence = IfSome known (λ bytes. IsJob bytes text sentence)

-- The sentence of a job was translated by its grammar, in the sense of the translation theorem.
pub record TranslatesJob (known : Option (List ℕ)) (honest_a honest_b : Bool) (a b : List ℕ) (old new : Option (List ℕ))
    (report : Report) : Type 0 where
  pub text : List ℕ
  pub sentence : List ℕ
  pub job : HasJob known text sentence
  pub grammar : Grammar
  pub is : IsGrammarOf text grammar
  pub translates : TranslatesSentence grammar sentence honest_a honest_b a b old new report

-- J1 to J3, and NoMemory: the bytes of a reader are not a job, or could not be read, for this reason
pub record IsNoJob (known : Option (List ℕ)) (e : Fault) : Type 0 where
  pub reason : JobFault
  pub named : e ≡ job_fault_of reason
  pub exact : IsJobFault known reason

-- G, N, L and A, and NoMemory: no translator was built from the text of a job's grammar, for this reason
pub record IsNoTranslator (text : List ℕ) (e : Fault) : Type 0 where
  pub reason : BuildFault
  pub named : e ≡ build_fault_of reason
  pub exact : IsBuildFault text reason

-- A job fails: no translator was built from its grammar, or the translation of its sentence by that
-- grammar failed.
pub record IsRefusedJob (known : Option (List ℕ)) (honest_a honest_b : Bool) (old new : Option (List ℕ))
    (e : Fault) : Type 0 where
  pub text : List ℕ
  pub sentence : List ℕ
  pub job : HasJob known text sentence
  pub exact : IsNoTranslator text e
      ⊎ ((grammar : Grammar) × IsGrammarOf text grammar × IsTranslationFault grammar sentence honest_a honest_b old new e)

-- A job's sentence has one tree by its grammar. If the devices are honest, all passes of a least plan ran over this tree, and the
-- devices have its last two files.
pub record LeavesLastFilesOfJob (known : Option (List ℕ)) (honest_a honest_b : Bool) (a b : List ℕ) : Type 0 where
  pub text : List ℕ
  pub sentence : List ℕ
  pub job : HasJob known text sentence
  pub grammar : Grammar
  pub is : IsGrammarOf text grammar
  pub files : LeavesLastFiles grammar sentence honest_a honest_b a b

-- the meaning of a fault of a job: for the bytes of the reader, or for its grammar and sentence
abbrev pub IsJobRefusal : Option (List ℕ) → (honest_a honest_b : Bool) → (old new : Option (List ℕ)) → Fault → Type 0
IsJobRefusal known ha hb old new e = IsNoJob known e ⊎ IsRefusedJob known ha hb old new e

-- the fault is one of J, G, N, L, A and S, which come before a device is used
abbrev pub IsBeforeTrees : Fault → Type 0
IsBeforeTrees (fault.Job f) = Unit {0}
IsBeforeTrees (fault.Text f) = Unit {0}
IsBeforeTrees (fault.Normal f) = Unit {0}
IsBeforeTrees (fault.Table f) = Unit {0}
IsBeforeTrees (fault.Assign f) = Unit {0}
IsBeforeTrees (fault.Scan f) = Unit {0}
IsBeforeTrees _ = ⊥

-- the fault is P, which comes before the second device is used, or one that comes before any device is used
abbrev pub IsBeforePasses : Fault → Type 0
IsBeforePasses (fault.Parse f) = Unit {0}
IsBeforePasses e = IsBeforeTrees e
