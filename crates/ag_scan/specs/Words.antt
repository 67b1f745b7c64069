-- The words of a sentence: those of literals and those of classes. A word is a part of a sentence; its lex is the text of a token
-- with this word (for a TEXT without the quotes). All definitions are this project's. In this file a word is the list of its
-- characters, and the text of a literal and a lex are lists of bytes.
use Rattle.std.specs.Prelude.{◌≡◌, ℕ, zero, suc, ◌≤◌, true, List, [], ◌∷◌, ◌++◌, length, Some, slice_get, encode_utf8_all}
use Rattle.std.specs.List.{list_all}
use Rattle.ag_grammar.specs.Lists.{Differ, Each, Has}
use Rattle.ag_grammar.specs.declared.grammar.Terminal.{Terminal}
use Rattle.ag_grammar.specs.declared.grammar.Terminal.TheVariants.{Literal, Class}
use Rattle.ag_grammar.specs.grammars.Accepted.{IsSeparator}
use Rattle.ag_grammar.specs.grammars.AttributeGrammar.{Grammar}
use Rattle.ag_tokens.specs.Tokens.{is_quotable, IsDigits, IsName}

-- The vocabulary of a grammar: the texts of its literals, indexed by their numbers, and the classes in use.
pub record Vocabulary : Type 0 where
  pub literals : List (List ℕ)
  pub classes : List ℕ

-- the vocabulary of these literals and classes
abbrev pub vocabulary : List (List ℕ) → List ℕ → Vocabulary
vocabulary literals classes = record { literals = literals; classes = classes }

-- the vocabulary of a grammar: its literals and its classes
abbrev pub vocabulary_of : Grammar → Vocabulary
vocabulary_of g = vocabulary g.literals g.classes

-- The characters are a word of the class (0 is NAME, 1 is NUMBER, 2 is TEXT), and `lex` is its text: for a
-- TEXT what is between its quotes (34 is the quote), else the word itself.
abbrev pub IsWordOfClass : ℕ → List ℕ → List ℕ → Type 0
IsWordOfClass zero word lex = IsName word × (lex ≡ encode_utf8_all word)
IsWordOfClass (suc zero) word lex = IsDigits word × (lex ≡ encode_utf8_all word)
IsWordOfClass (suc (suc zero)) word lex =
    (body : List ℕ) × (word ≡ 34 ∷ (body ++ 34 ∷ [])) × (list_all is_quotable body ≡ true) × (lex ≡ encode_utf8_all body)
IsWordOfClass (suc (suc (suc c))) word lex = ⊥

-- The characters are a word of the terminal: the text of a literal, or a word of a class in use.
abbrev pub IsWord : Vocabulary → Terminal → List ℕ → List ℕ → Type 0
IsWord v (Literal l) word lex = (slice_get v.literals l ≡ Some (encode_utf8_all word)) × (lex ≡ encode_utf8_all word)
IsWord v (Class c) word lex = Has v.classes c × IsWordOfClass c word lex

-- no literal is the empty text
abbrev pub HasNoEmpty : List (List ℕ) → Type 0
HasNoEmpty literals = Each (λ x. 1 ≤ length x) literals

-- the characters are the text of a literal
abbrev pub IsLiteral : List (List ℕ) → List ℕ → Type 0
IsLiteral literals word = Has literals (encode_utf8_all word)

-- the characters are a word of one of the classes
abbrev pub IsClassWord : List ℕ → List ℕ → Type 0
IsClassWord classes word = (c : ℕ) × (lex : List ℕ) × Has classes c × IsWordOfClass c word lex

-- the characters are a word of any terminal of the vocabulary
abbrev pub IsAnyWord : Vocabulary → List ℕ → Type 0
IsAnyWord v word = (t : Terminal) × (lex : List ℕ) × IsWord v t word lex

-- No prefix of the characters `word ++ rest` that has the property is longer than `word`.
abbrev pub IsLongest : (List ℕ → Type 0) → List ℕ → List ℕ → Type 0
IsLongest P word rest = (longer more : List ℕ) → word ++ rest ≡ longer ++ more → P longer → length longer ≤ length word

-- no prefix of the characters has the property
abbrev pub BeginsNone : (List ℕ → Type 0) → List ℕ → Type 0
BeginsNone P cs = (word more : List ℕ) → cs ≡ word ++ more → P word → ⊥

-- if the terminal is a class, the word is not the text of a literal
abbrev pub LiteralWins : Vocabulary → Terminal → List ℕ → Type 0
LiteralWins v (Literal l) word = Unit {0}
LiteralWins v (Class c) word = IsLiteral v.literals word → ⊥

-- The word before `rest` is a token of the terminal: it is a word of the terminal, and no longer prefix of the characters is a
-- word of any terminal. A literal wins a tie.
pub record IsToken (v : Vocabulary) (t : Terminal) (lex word rest : List ℕ) : Type 0 where
  pub is : IsWord v t word lex
  pub longest : IsLongest (IsAnyWord v) word rest
  pub tie : LiteralWins v t word

-- The literals are different, none is empty, and none contains a separator.
pub record IsClean (v : Vocabulary) : Type 0 where
  pub some : HasNoEmpty v.literals
  pub plain : Each (Each (λ b. IsSeparator b → ⊥)) v.literals
  pub differ : Differ v.literals
