-- What was written to an empty buffer is the translation, and what a fault says still holds if fewer devices are honest: ha' and hb'
-- (and ht' for the device of a tree) say which are.
use Rattle.std.proofs.Common.{◌≡◌, ℕ, Bool, true, List, [], Option, Some, sym, subst}
use Rattle.ag_value.specs.declared.value.Value.{Text}
use Rattle.ag_grammar.specs.grammars.AttributeGrammar.{Grammar}
use Rattle.ag_grammar.specs.grammars.Passes.{Passes}
use Rattle.ag_grammar.specs.grammars.Solution.{IsTranslation}
use Rattle.ag_grammar.specs.grammars.Tree.{Tree}
use Rattle.treefile.specs.devices.Device.{WhenHonest}
use Rattle.aggen.specs.Evaluating.{EvaluatesTree, IsEvaluationFault}
use Rattle.aggen.specs.Results.{HasTranslation, IsEvaluationOf, IsTranslationOf}
use Rattle.aggen.specs.Translating.{ArePassesOf, IsTranslationFault, TranslatesSentence}
use Rattle.aggen.specs.Translation.{IsOneTree, IsTranslated}
use Rattle.ag_fault.specs.declared.fault.Fault.{Fault}
use Rattle.ag_fault.specs.declared.fault.Fault.TheVariants as fault
use Rattle.aggen.specs.declared.translations.report.Report.{Report}

pub has_translation : (IsTree : Tree → Type 0) (g : Grammar) (m : Passes) (passes : ℕ) (tree : Tree) (now before text : List ℕ)
    (report : Report)
    → IsOneTree IsTree tree → ArePassesOf g m passes → IsTranslated g m passes tree now before (Some []) (Some text) report
    → HasTranslation IsTree g text
has_translation IsTree g m passes tree now before text report one plan is = record {
  tree = tree;
  one = one;
  assignment = m;
  passes = passes;
  plan = plan;
  values = is.values;
  solution = is.leaves.solution;
  root = subst (λ (s : List ℕ). IsTranslation g is.values (Text s)) (sym is.output) is.root;
}

-- the same for a sentence, and for the tree of a content
pub translation_of : (g : Grammar) (sentence : List ℕ) (ha hb : Bool) (a b text : List ℕ) (report : Report)
    → TranslatesSentence g sentence ha hb a b (Some []) (Some text) report
    → WhenHonest ha (WhenHonest hb (IsTranslationOf g sentence text))
translation_of g sentence ha hb a b text report t = λ x y.
    has_translation _ g t.assignment t.passes t.tree _ _ text report t.one t.plan (t.translated x y)

pub evaluation_of : (g : Grammar) (ht ha hb : Bool) (content a b text : List ℕ) (report : Report)
    → EvaluatesTree g ht ha hb content a b (Some []) (Some text) report
    → WhenHonest ht (WhenHonest ha (WhenHonest hb (IsEvaluationOf g content text)))
evaluation_of g ht ha hb content a b text report t = λ z x y.
    let is = t.evaluated z x y in has_translation _ g t.assignment t.passes is.tree _ _ text report is.one t.plan is.translated

module _ (g : Grammar) (sentence : List ℕ) (ha hb ha' hb' : Bool) (first : ha' ≡ true → ha ≡ true)
    (second : hb' ≡ true → hb ≡ true) (old new : Option (List ℕ)) where
  pub still_refused : (e : Fault) → IsTranslationFault g sentence ha hb old new e → IsTranslationFault g sentence ha' hb' old new e
  still_refused (fault.Scan f) is = is
  still_refused (fault.Parse f) is = is
  still_refused (fault.Run f) is = (is.0, λ x y. is.1 (first x) (second y))
  still_refused (fault.NoText v) is = λ x y. is (first x) (second y)
  still_refused fault.NotATreeFile is = λ x y. is (first x) (second y)
  still_refused (fault.Damaged at) is = λ x y. is (first x) (second y)
  still_refused fault.Write is = λ x y. is (first x) (second y)
  still_refused fault.Device is = tt
  still_refused fault.NoMemory is = tt
  still_refused fault.Usage is = is
  still_refused fault.File is = is
  still_refused (fault.Expr f) is = is
  still_refused (fault.Text f) is = is
  still_refused (fault.Normal f) is = is
  still_refused (fault.Table f) is = is
  still_refused (fault.Assign s) is = is
  still_refused (fault.Job f) is = is

module _ (g : Grammar) (content : List ℕ) (ht ha hb ht' ha' hb' : Bool) (tree : ht' ≡ true → ht ≡ true)
    (first : ha' ≡ true → ha ≡ true) (second : hb' ≡ true → hb ≡ true) (old new : Option (List ℕ)) where
  pub tree_still_refused : (e : Fault)
      → IsEvaluationFault g ht ha hb content old new e → IsEvaluationFault g ht' ha' hb' content old new e
  tree_still_refused (fault.Run f) is = (is.0, λ z x y. is.1 (tree z) (first x) (second y))
  tree_still_refused (fault.NoText v) is = λ z x y. is (tree z) (first x) (second y)
  tree_still_refused fault.NotATreeFile is = λ z x y. is (tree z) (first x) (second y)
  tree_still_refused (fault.Damaged at) is = λ z x y. is (tree z) (first x) (second y)
  tree_still_refused fault.Write is = λ z x y. is (tree z) (first x) (second y)
  tree_still_refused fault.Device is = tt
  tree_still_refused fault.NoMemory is = tt
  tree_still_refused fault.Usage is = is
  tree_still_refused fault.File is = is
  tree_still_refused (fault.Expr f) is = is
  tree_still_refused (fault.Text f) is = is
  tree_still_refused (fault.Normal f) is = is
  tree_still_refused (fault.Table f) is = is
  tree_still_refused (fault.Assign s) is = is
  tree_still_refused (fault.Scan f) is = is
  tree_still_refused (fault.Parse f) is = is
  tree_still_refused (fault.Job f) is = is
