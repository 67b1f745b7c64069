-- The result of parsing a sentence: the tree of its tokens, or the reason why the sentence is refused.
use Rattle.std.specs.Prelude.{ℕ, ◌≡◌, ◌<◌, ◌≤◌, ◌++◌, List, length, map, take, drop}
use Rattle.ag_grammar.specs.grammars.AttributeGrammar.{Grammar}
use Rattle.ag_grammar.specs.grammars.Tree.{Tree, IsTreeOf, depth_of, node_count}
use Rattle.ag_grammar.specs.grammars.Yield.{Lexeme, yield_of}
use Rattle.ag_scan.specs.TokenReader.{offset_at}
use Rattle.ag_scan.specs.Tokens.{Token}
use Rattle.llparse.specs.Ahead.{ahead_of}
use Rattle.llparse.specs.sentence.Opened.{Open, opened, IsCutAt}

-- the terminals of tokens with their texts
abbrev pub words_of : List Token → List Lexeme
words_of ts = map (λ t. (t.kind, t.lex)) ts

-- a tree of the grammar that yields these words (the textbook)
pub record IsTreeWith (g : Grammar) (words : List Lexeme) (t : Tree) : Type 0 where
  pub tree : IsTreeOf g t
  pub yields : yield_of g t ≡ words

-- The token at an index can't be taken. (If the index is the number of words: the sentence can't end there.) The words before the
-- index are a prefix of some sentence. No sentence continues these words with a word of the token's terminal. If the index is the
-- number of words, these words are not a sentence.
pub record IsStuckAt (g : Grammar) (words : List Lexeme) (index : ℕ) : Type 0 where
  pub within : index ≤ length words
  pub begins : (rest : List Lexeme) × (t : Tree) × IsTreeWith g (take index words ++ rest) t
  pub ends : (rest : List Lexeme) (t : Tree) → ahead_of rest ≡ ahead_of (drop index words)
      → IsTreeWith g (take index words ++ rest) t → ⊥

-- The words leave only trees beyond a limit: `size` is the depth (P2) or the number of nodes (P3) of a tree, and `begun` counts
-- the open nodes (P2), or the nodes that are open or done (P3). At some index the limit is reached: some tree begins with the
-- words before the index, is cut at that index (`IsCutAt`), and `begun` of the open nodes above the cut is at least the limit.
-- Each tree that begins with the words before the index, and continues with any words whose look-ahead is that of the given words
-- at the index, is beyond the limit. By the law `left_trees_are_beyond_the_limit`, so is each tree of the words, if there is one.
pub record LeavesOnly (g : Grammar) (words : List Lexeme) (size : Tree → ℕ) (begun : List Open → ℕ) (limit : ℕ) : Type 0 where
  pub index : ℕ
  pub within : index ≤ length words
  pub rest : List Lexeme
  pub tree : Tree
  pub begins : IsTreeWith g (take index words ++ rest) tree
  pub above : List Open
  pub cut : IsCutAt g above rest tree
  pub full : limit ≤ begun above
  pub only : (others : List Lexeme) (t : Tree) → ahead_of others ≡ ahead_of (drop index words)
      → IsTreeWith g (take index words ++ others) t → limit < size t

-- P2: the number of open nodes above the next one has reached the greatest number of levels
abbrev pub LeavesOnlyDeeper : ℕ → Grammar → List Lexeme → Type 0
LeavesOnlyDeeper limit g words = LeavesOnly g words depth_of (λ above. length above) limit

-- P3: the number of nodes opened before the next one has reached the greatest number of nodes
abbrev pub LeavesOnlyLarger : ℕ → Grammar → List Lexeme → Type 0
LeavesOnlyLarger limit g words = LeavesOnly g words node_count opened limit

-- an offset is that of the token that can't be taken; if the sentence can't end, that of the last token, or 0 if there is none
abbrev pub IsUnexpectedAt : Grammar → List Token → ℕ → Type 0
IsUnexpectedAt g ts at = (i : ℕ) × IsStuckAt g (words_of ts) i × (at ≡ offset_at ts i)
