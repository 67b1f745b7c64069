-- What the calls of a translator say if all files are in memory, and the text is written to an empty vector.
use Rattle.std.proofs.Common.{◌≡◌, ◌≢◌, ◌⊎◌, inl, inr, ℕ, List, [], Option, Some, true, refl, sym, ◌∙◌, subst}
use Rattle.ag_grammar.specs.grammars.AttributeGrammar.{Grammar}
use Rattle.ag_grammar.specs.grammars.Tree.{IsWithinLimits, Tree, max_depth, max_nodes}
use Rattle.agoutput.specs.Listings.{AppendsPlan, IsPlanListing}
use Rattle.passcode.specs.Rows.{Lists}
use Rattle.treefile.specs.devices.Device.{WhenHonest}
use Rattle.treefile.specs.records.FirstFile.{IsFirstFile}
use Rattle.treefile.specs.records.TreeFile.{version_two}
use Rattle.aggen.specs.Building.{IsLeastPlan}
use Rattle.aggen.specs.Evaluating.{EvaluatesTree, IsEvaluationFault}
use Rattle.aggen.specs.Sentences.{IsSentenceFault, IsTreeOfSentence}
use Rattle.aggen.proofs.Results.{has_translation}
use Rattle.aggen.specs.Translating.{IsTranslationFault, TranslatesSentence}
use Rattle.aggen.specs.declared.translations.report.Report.{Report}
use Rattle.ag_fault.specs.declared.fault.Fault.{Fault}
use Rattle.ag_fault.specs.declared.fault.Fault.TheVariants as fault
use Rattle.aggen.specs.Results.{IsEvaluationOf, IsTranslationOf}
use Rattle.aggen_c.specs.Results.{IsEvaluationRefusal, IsPlanTextOf}
use Rattle.aggen_c.specs.Results.{IsTranslationRefusal}
use Rattle.aggen_c.specs.Results.{IsTreeFileOf, IsTreeRefusal}

pub translated : (g : Grammar) (sentence a b start text : List ℕ) (report : Report) → start ≡ []
    → TranslatesSentence g sentence true true a b (Some start) (Some text) report → IsTranslationOf g sentence text
translated g sentence a b start text report empty was =
    let t : TranslatesSentence g sentence true true a b (Some []) (Some text) report =
    subst (λ (w : List ℕ). TranslatesSentence g sentence true true a b (Some w) (Some text) report) empty was in
    has_translation _ g t.assignment t.passes t.tree _ _ text report t.one t.plan (t.translated refl refl)

pub evaluated : (g : Grammar) (file content a b start text : List ℕ) (report : Report) → content ≡ file → start ≡ []
    → EvaluatesTree g true true true content a b (Some start) (Some text) report → IsEvaluationOf g file text
evaluated g file content a b start text report same empty was =
    let t : EvaluatesTree g true true true file a b (Some []) (Some text) report =
    subst (λ (w : List ℕ). EvaluatesTree g true true true file a b (Some w) (Some text) report) empty
    (subst (λ (w : List ℕ). EvaluatesTree g true true true w a b (Some start) (Some text) report) same was) in
    let is = t.evaluated refl refl refl in
    has_translation _ g t.assignment t.passes is.tree _ _ text report is.one t.plan is.translated

-- the copied bytes are the tree file of the sentence's one tree, if the device that lent them contains that file
pub has_tree_file : (g : Grammar) (sentence content lent copy : List ℕ)
    → (t : Tree) × IsTreeOfSentence g sentence t
    → ((t u : Tree) → IsTreeOfSentence g sentence t → IsTreeOfSentence g sentence u → t ≡ u)
    → ((t : Tree) → IsTreeOfSentence g sentence t → IsWithinLimits max_depth max_nodes t)
    → ((t : Tree) → IsTreeOfSentence g sentence t → WhenHonest true (IsFirstFile version_two g t content))
    → lent ≡ content → copy ≡ lent → IsTreeFileOf g sentence copy
has_tree_file g sentence content lent copy found one limits file same copied = record {
  tree = found.0;
  one = record { is_tree = found.1; only = λ s is. one s found.0 is found.1; within = limits found.0 found.1 };
  is = subst (IsFirstFile version_two g found.0) (sym (copied ∙ same)) (file found.0 found.1 refl);
}

-- what was written to an empty vector is the listing of the grammar's plan
pub plan_text_of : (g lent : Grammar) (rows : List (List ℕ)) (code : Lists) (start text : List ℕ) → IsLeastPlan g rows code
    → lent ≡ g → start ≡ []
    → AppendsPlan lent rows (Some start) (Some text) → IsPlanTextOf g text
plan_text_of g lent rows code start text least same empty was =
    let listed : AppendsPlan g rows (Some []) (Some text) =
    subst (λ (w : List ℕ). AppendsPlan g rows (Some w) (Some text)) empty
    (subst (λ (x : Grammar). AppendsPlan x rows (Some start) (Some text)) same was) in
    record { rows = rows; code = code; least = least; listing = subst (IsPlanListing g rows) (sym listed.2) listed.1 }

-- a fault of a translation, other than `Device` and `Write`, is true of the sentence
translation_true : (g : Grammar) (sentence : List ℕ) (old new : Option (List ℕ)) (e : Fault) → e ≢ fault.Device → e ≢ fault.Write
    → IsTranslationFault g sentence true true old new e → IsTranslationRefusal g sentence e
translation_true g sentence old new (fault.Scan f) device write is = is
translation_true g sentence old new (fault.Parse f) device write is = is
translation_true g sentence old new (fault.Run f) device write is = is.1 refl refl
translation_true g sentence old new (fault.NoText v) device write is = is refl refl
translation_true g sentence old new fault.NotATreeFile device write is = is refl refl
translation_true g sentence old new (fault.Damaged at) device write is = is refl refl
translation_true g sentence old new fault.Write device write is = absurd (write refl)
translation_true g sentence old new fault.Device device write is = absurd (device refl)
translation_true g sentence old new fault.NoMemory device write is = tt
translation_true g sentence old new fault.Usage device write is = is
translation_true g sentence old new fault.File device write is = is
translation_true g sentence old new (fault.Expr f) device write is = is
translation_true g sentence old new (fault.Text f) device write is = is
translation_true g sentence old new (fault.Normal f) device write is = is
translation_true g sentence old new (fault.Table f) device write is = is
translation_true g sentence old new (fault.Assign s) device write is = is
translation_true g sentence old new (fault.Job f) device write is = is

evaluation_true : (g : Grammar) (file : List ℕ) (old new : Option (List ℕ)) (e : Fault) → e ≢ fault.Device → e ≢ fault.Write
    → IsEvaluationFault g true true true file old new e → IsEvaluationRefusal g file e
evaluation_true g file old new (fault.Run f) device write is = (is.0, is.1 refl refl refl)
evaluation_true g file old new (fault.NoText v) device write is = is refl refl refl
evaluation_true g file old new fault.NotATreeFile device write is = is refl refl refl
evaluation_true g file old new (fault.Damaged at) device write is = is refl refl refl
evaluation_true g file old new fault.Write device write is = absurd (write refl)
evaluation_true g file old new fault.Device device write is = absurd (device refl)
evaluation_true g file old new fault.NoMemory device write is = tt
evaluation_true g file old new fault.Usage device write is = is
evaluation_true g file old new fault.File device write is = is
evaluation_true g file old new (fault.Expr f) device write is = is
evaluation_true g file old new (fault.Text f) device write is = is
evaluation_true g file old new (fault.Normal f) device write is = is
evaluation_true g file old new (fault.Table f) device write is = is
evaluation_true g file old new (fault.Assign s) device write is = is
evaluation_true g file old new (fault.Scan f) device write is = is
evaluation_true g file old new (fault.Parse f) device write is = is
evaluation_true g file old new (fault.Job f) device write is = is

tree_true : (g : Grammar) (sentence : List ℕ) (e : Fault) → e ≢ fault.Device → IsSentenceFault g sentence e
    → IsTreeRefusal g sentence e
tree_true g sentence (fault.Scan f) device is = is
tree_true g sentence (fault.Parse f) device is = is
tree_true g sentence fault.Device device is = absurd (device refl)
tree_true g sentence fault.NoMemory device is = tt
tree_true g sentence (fault.Run f) device is = is
tree_true g sentence (fault.NoText v) device is = is
tree_true g sentence fault.NotATreeFile device is = is
tree_true g sentence (fault.Damaged at) device is = is
tree_true g sentence fault.Write device is = is
tree_true g sentence fault.Usage device is = is
tree_true g sentence fault.File device is = is
tree_true g sentence (fault.Expr f) device is = is
tree_true g sentence (fault.Text f) device is = is
tree_true g sentence (fault.Normal f) device is = is
tree_true g sentence (fault.Table f) device is = is
tree_true g sentence (fault.Assign s) device is = is
tree_true g sentence (fault.Job f) device is = is

-- the same of the fault r that `memory_fault` returns for the fault e of a translation
pub translation_refused : (g : Grammar) (sentence : List ℕ) (old new : Option (List ℕ)) (e r : Fault)
    → IsTranslationFault g sentence true true old new e → (r ≡ e) ⊎ (r ≡ fault.NoMemory) → r ≢ fault.Device → r ≢ fault.Write
    → IsTranslationRefusal g sentence r
translation_refused g sentence old new e r is (inl same) device write =
    translation_true g sentence old new r device write (subst (IsTranslationFault g sentence true true old new) (sym same) is)
translation_refused g sentence old new e r is (inr resource) device write =
    subst (IsTranslationRefusal g sentence) (sym resource) tt

pub evaluation_refused : (g : Grammar) (file content : List ℕ) (old new : Option (List ℕ)) (e r : Fault) → content ≡ file
    → IsEvaluationFault g true true true content old new e → (r ≡ e) ⊎ (r ≡ fault.NoMemory) → r ≢ fault.Device → r ≢ fault.Write
    → IsEvaluationRefusal g file r
evaluation_refused g file content old new e r from is (inl same) device write =
    evaluation_true g file old new r device write
    (subst (λ (w : List ℕ). IsEvaluationFault g true true true w old new r) from
    (subst (IsEvaluationFault g true true true content old new) (sym same) is))
evaluation_refused g file content old new e r from is (inr resource) device write =
    subst (IsEvaluationRefusal g file) (sym resource) tt

pub tree_refused : (g : Grammar) (sentence : List ℕ) (e r : Fault)
    → IsSentenceFault g sentence e → (r ≡ e) ⊎ (r ≡ fault.NoMemory) → r ≢ fault.Device → IsTreeRefusal g sentence r
tree_refused g sentence e r is (inl same) device =
    tree_true g sentence r device (subst (IsSentenceFault g sentence) (sym same) is)
tree_refused g sentence e r is (inr resource) device = subst (IsTreeRefusal g sentence) (sym resource) tt
