-- From the contract of a translation with two devices to the words of a command. ha and hb say whether the devices are honest.
use Rattle.std.proofs.Common.{◌≡◌, ℕ, Bool, true, List, [], Option, Some, subst}
use Rattle.ag_grammar.specs.grammars.AttributeGrammar.{Grammar}
use Rattle.aggen.proofs.Results.{evaluation_of, translation_of}
use Rattle.aggen.specs.Evaluating.{EvaluatesTree}
use Rattle.aggen.specs.Translating.{TranslatesSentence}
use Rattle.aggen.specs.declared.translations.report.Report.{Report}
use Rattle.noted_file.specs.Calls.{Event as Call, replay}
use Rattle.program_io.specs.Sessions.{State}
use Rattle.translation_commands.specs.Evaluations.{Evaluated}
use Rattle.translation_commands.specs.Runs.{Translated, is_honest}

-- a tree file in a folder is honest by the calls on it, which are kept when it is closed
pub honest_file : (work : Option (List ℕ)) (folder : List ℕ) (calls kept : List Call) → work ≡ Some folder → kept ≡ calls
    → is_honest work kept ≡ true → (replay calls).is_honest ≡ true
honest_file work folder calls kept is same x =
    subst (λ (cs : List Call). (replay cs).is_honest ≡ true) same
    (subst (λ (w : Option (List ℕ)). is_honest w kept ≡ true) is x)

pub translated : (g : Grammar) (work : Option (List ℕ)) (sentence : List ℕ) (new : State) (ha hb : Bool) (a b text : List ℕ)
    (report : Report)
    → (is_honest work new.a ≡ true → ha ≡ true) → (is_honest work new.b ≡ true → hb ≡ true)
    → TranslatesSentence g sentence ha hb a b (Some []) (Some text) report → Translated g work sentence new text
translated g work sentence new ha hb a b text report first second t = record {
  tree = t.tree;
  one = t.one;
  is = λ x y. translation_of g sentence ha hb a b text report t (first x) (second y);
}

pub evaluated : (g : Grammar) (work : Option (List ℕ)) (honest : Bool) (content : List ℕ) (new : State) (ha hb : Bool)
    (a b text : List ℕ) (report : Report)
    → (is_honest work new.a ≡ true → ha ≡ true) → (is_honest work new.b ≡ true → hb ≡ true)
    → EvaluatesTree g honest ha hb content a b (Some []) (Some text) report → Evaluated g work honest content new text
evaluated g work honest content new ha hb a b text report first second t = λ z x y.
    evaluation_of g honest ha hb content a b text report t z (first x) (second y)
