-- The text of a value, as `aggen value` prints it. This project's.
use Rattle.std.specs.Prelude.{ℕ, List, [], ◌∷◌, ◌++◌, map, codes, encode_utf8, ◌==◌, if◌then◌else◌}
use Rattle.std.specs.Fmt.{signed_decimal}
use Rattle.std.specs.List.{flat_map}
use Rattle.std.specs.Str.{chars}
use Rattle.ag_value.specs.declared.value.Value.{Value, fold-Value}
use Rattle.ag_value.specs.declared.value.Value.TheOpen.{Value-F}
use Rattle.ag_value.specs.declared.value.ErrorCode.{ErrorCode}
use Rattle.ag_value.specs.declared.value.ErrorCode.TheVariants as code

-- the name of an error
abbrev pub name_of : ErrorCode → List ℕ
name_of code.Overflow = codes "overflow"
name_of code.Divide = codes "divide"
name_of code.Kind = codes "kind"
name_of code.Index = codes "index"
name_of code.Key = codes "key"
name_of code.Number = codes "number"
name_of code.Big = codes "big"
name_of code.Deep = codes "deep"

-- a character as it is written inside quotes: `"` and `\` have a backslash before them; line feed, carriage return and tab are
-- `\n`, `\r` and `\t`; all others are as they are
abbrev pub escaped : ℕ → List ℕ
escaped c =
    if c == 34 then codes "\\\"" else
    (if c == 92 then codes "\\\\" else
    (if c == 10 then codes "\\n" else
    (if c == 13 then codes "\\r" else
    (if c == 9 then codes "\\t" else encode_utf8 c))))

-- a text in double quotes
abbrev pub quoted : List ℕ → List ℕ
quoted text = codes "\"" ++ flat_map escaped (chars text) ++ codes "\""

-- each text with a comma and a space before it
abbrev pub following : List (List ℕ) → List ℕ
following [] = []
following (text ∷ texts) = codes ", " ++ text ++ following texts

-- texts with a comma and a space between neighbours
abbrev pub separated : List (List ℕ) → List ℕ
separated [] = []
separated (text ∷ texts) = text ++ following texts

-- the text of a value, from the texts of the values in it
abbrev pub shown_step : Value-F (List ℕ) → List ℕ
shown_step (Value-F.Num n) = signed_decimal n
shown_step (Value-F.Text text) = quoted text
shown_step (Value-F.List items) = codes "[" ++ separated items ++ codes "]"
shown_step (Value-F.Table pairs) = codes "{" ++ separated (map (λ p. quoted p.0 ++ codes ": " ++ p.1) pairs) ++ codes "}"
shown_step (Value-F.Fault c) = codes "error " ++ name_of c

-- The text of a value: a number in decimal; a text in double quotes; a list as `[a, b]`; a table as
-- `{"k": v, "l": w}`; an error as `error` and its name.
abbrev pub shown_of : Value → List ℕ
shown_of = fold-Value (List ℕ) shown_step

-- the text of a pair of a table
abbrev pub shown_of_pair : List ℕ × Value → List ℕ
shown_of_pair p = quoted p.0 ++ codes ": " ++ shown_of p.1
