-- The tokens of the language, by what they denote (this project's language). The Rust type `GrammarToken` has the same cases,
-- but contains a text literal as it is written.
use Rattle.std.specs.Prelude.{ℕ, ℤ, List}
use Rattle.ag_tokens.specs.declared.token.Punctuation as punctuation

pub data GrammarToken : Type 0 where
  -- a number literal, by the number
  Number : ℤ → GrammarToken
  -- a text literal, by the bytes of the text that it denotes
  Text : List ℕ → GrammarToken
  -- a name, by its bytes
  Name : List ℕ → GrammarToken
  -- an occurrence of an attribute, by its place and the bytes of its name
  Occurrence : ℕ → List ℕ → GrammarToken
  Punctuation : punctuation.Punctuation → GrammarToken

-- A token with a fixed text: punctuation (`mark`), or a name, such as a reserved word, by its bytes (`word`).
pub data Sign : Type 0 where
  mark : punctuation.Punctuation → Sign
  word : List ℕ → Sign

-- the token of a sign
abbrev pub sign_token : Sign → GrammarToken
sign_token (mark m) = Punctuation m
sign_token (word name) = Name name
