-- The spelling of a value: the bytes that encode it. All numbers are big-endian. This project's.
use Rattle.std.specs.Prelude.{◌≡◌, ℕ, List, [], ◌∷◌, ◌++◌, length, map}
use Rattle.std.specs.Int.{w32, w64, to_be_bytes, cast_unsigned}
use Rattle.ag_value.specs.declared.value.Value.{Value, fold-Value}
use Rattle.ag_value.specs.declared.value.Value.TheOpen.{Value-F}
use Rattle.ag_value.specs.declared.value.ErrorCode.{ErrorCode}
use Rattle.ag_value.specs.declared.value.ErrorCode.TheVariants as code

-- the number of an error, from 1 to 8
abbrev pub number_of : ErrorCode → ℕ
number_of code.Overflow = 1
number_of code.Divide = 2
number_of code.Kind = 3
number_of code.Index = 4
number_of code.Key = 5
number_of code.Number = 6
number_of code.Big = 7
number_of code.Deep = 8

-- the number of the bytes, in four bytes, and then the bytes. A number from 2^32 on loses its higher bytes, but no well value has
-- a key or a text of that length.
abbrev pub counted : List ℕ → List ℕ
counted bytes = to_be_bytes w32 (length bytes) ++ bytes

-- lists of bytes, one after the other
abbrev pub joined : List (List ℕ) → List ℕ
joined [] = []
joined (text ∷ texts) = text ++ joined texts

-- the spelling of a value, from the spellings of the values in it
abbrev pub spelling_step : Value-F (List ℕ) → List ℕ
spelling_step (Value-F.Num n) = 0 ∷ to_be_bytes w64 (cast_unsigned w64 n)
spelling_step (Value-F.Text text) = 1 ∷ counted text
spelling_step (Value-F.List items) = 2 ∷ (to_be_bytes w32 (length items) ++ joined items)
spelling_step (Value-F.Table pairs) = 3 ∷ (to_be_bytes w32 (length pairs) ++ joined (map (λ p. counted p.0 ++ p.1) pairs))
spelling_step (Value-F.Fault c) = 4 ∷ number_of c ∷ []

-- The spelling of a value. A number: byte 0, and eight bytes in two's complement. A text: byte 1, its length in
-- four bytes, and its bytes. A list: byte 2, the count of its items in four bytes, and their spellings. A table:
-- byte 3, the count of its pairs in four bytes, and for each pair the key's length in four bytes, its bytes, and
-- the value's spelling. An error: byte 4 and its number.
abbrev pub spelling_of : Value → List ℕ
spelling_of = fold-Value (List ℕ) spelling_step

-- the spelling of a pair of a table
abbrev pub spelling_of_pair : List ℕ × Value → List ℕ
spelling_of_pair p = counted p.0 ++ spelling_of p.1

-- `new` is `old` followed by some bytes, `more`
pub record Extends (old new : List ℕ) : Type 0 where
  pub more : List ℕ
  pub is : new ≡ old ++ more
