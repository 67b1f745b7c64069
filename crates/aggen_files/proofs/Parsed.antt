-- The clauses of `parse_tree` for a device, after the device was written out. `content` is what the device had then, and `stored`
-- what is written out; `honest` and `honest_now` say whether the device is honest before and after that.
use Rattle.std.proofs.Common.{◌≡◌, ℕ, List, Bool, true, Result, Ok, Err, sym, subst}
use Rattle.std.specs.Result.{IfOk, OnOk}
use Rattle.ag_grammar.specs.grammars.AttributeGrammar.{Grammar}
use Rattle.ag_grammar.specs.grammars.Tree.{IsWithinLimits, Tree, max_depth, max_nodes, node_count}
use Rattle.treefile.specs.devices.Device.{WhenHonest}
use Rattle.treefile.specs.records.FirstFile.{IsFirstFile}
use Rattle.treefile.specs.records.TreeFile.{version_two}
use Rattle.aggen.specs.Sentences.{IsTreeOfSentence}
use Rattle.ag_fault.specs.declared.fault.Fault.{Fault}
use Rattle.aggen_files.specs.Trees.{ParsesSentence}

pub parsed : (g : Grammar) (sentence : List ℕ) (honest honest_now : Bool) (content stored : List ℕ) (r : Result ℕ Fault)
    → (honest_now ≡ true → honest ≡ true) → (honest_now ≡ true → stored ≡ content)
    → IfOk r (λ _. (t : Tree) × IsTreeOfSentence g sentence t)
    → ((t u : Tree) → IsTreeOfSentence g sentence t → IsTreeOfSentence g sentence u → t ≡ u)
    → ((t : Tree) → IsTreeOfSentence g sentence t → OnOk r (IsWithinLimits max_depth max_nodes t))
    → ((t : Tree) → IsTreeOfSentence g sentence t → IfOk r (λ count. count ≡ node_count t))
    → ((t : Tree) → IsTreeOfSentence g sentence t → OnOk r (WhenHonest honest (IsFirstFile version_two g t content)))
    → IfOk r (ParsesSentence g sentence honest_now stored)
parsed g sentence honest honest_now content stored (Ok count) first same found one limits counts file = record {
  tree = found.0;
  one = record { is_tree = found.1; only = λ s is. one s found.0 is found.1; within = limits found.0 found.1 };
  file = λ h. subst (IsFirstFile version_two g found.0) (sym (same h)) (file found.0 found.1 (first h));
  nodes = counts found.0 found.1;
}
parsed g sentence honest honest_now content stored (Err e) first same found one limits counts file = tt
