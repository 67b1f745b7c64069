-- The translation of a sentence, and that of the tree in a file: the text of the root of its one tree (Knuth 1968). How the trees
-- are given is this project's.
use Rattle.std.specs.Prelude.{ℕ, List}
use Rattle.ag_value.specs.declared.value.Value.{Text}
use Rattle.ag_grammar.specs.grammars.AttributeGrammar.{Grammar}
use Rattle.ag_grammar.specs.grammars.Passes.{Passes}
use Rattle.ag_grammar.specs.grammars.Running.{IsTheSolution}
use Rattle.ag_grammar.specs.grammars.Solution.{IsTranslation, Valuation}
use Rattle.ag_grammar.specs.grammars.Tree.{Tree}
use Rattle.aggen.specs.Sentences.{IsTreeOfSentence}
use Rattle.aggen.specs.Translating.{ArePassesOf}
use Rattle.aggen.specs.Translation.{IsOneTree, IsTreeInFile}

-- There is exactly one tree with the property `IsTree`, and it is within the limits. The values meet every equation of the
-- grammar at every node of this tree, no other values do, and the text is the value of the root's `out`. `IsTheSolution` speaks
-- only of attributes to which `assignment` gives a pass. As the assignment of a least plan, it gives a pass to every attribute.
pub record HasTranslation (IsTree : Tree → Type 0) (g : Grammar) (text : List ℕ) : Type 0 where
  pub tree : Tree
  pub one : IsOneTree IsTree tree
  pub assignment : Passes
  pub passes : ℕ
  pub plan : ArePassesOf g assignment passes
  pub values : Valuation
  pub solution : IsTheSolution g assignment tree values
  pub root : IsTranslation g values (Text text)

-- the text is the translation of a sentence
abbrev pub IsTranslationOf : Grammar → (sentence text : List ℕ) → Type 0
IsTranslationOf g sentence = HasTranslation (IsTreeOfSentence g sentence) g

-- the text is the translation of the tree in a tree file of pass 0
abbrev pub IsEvaluationOf : Grammar → (file text : List ℕ) → Type 0
IsEvaluationOf g file = HasTranslation (IsTreeInFile g file) g
