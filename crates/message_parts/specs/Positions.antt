-- Lines and columns in a text. A line ends with LF. Columns count characters, and both count from 1. This project's.
use Rattle.std.specs.Prelude.{◌≡◌, ℕ, ◌+◌, ◌-◌, ◌==◌, nat_le, nat_lt, Bool, ◌&&◌, cond, List, [], ◌∷◌, take, refl}
use Rattle.message_parts.specs.declared.position.Position.{Position}
use Rattle.message_parts.specs.declared.position.Source.{Source}

-- whether a byte of UTF-8 is not the first one of its character
abbrev pub is_continuation : ℕ → Bool
is_continuation byte = nat_le 128 byte && nat_lt byte 192

-- the position after a byte: a new line after LF, the next column after the first byte of any other character
abbrev pub after_byte : Position → ℕ → Position
after_byte p byte =
    cond (byte == 10) (record { line = p.line + 1; column = 1 })
    (cond (is_continuation byte) p (record { line = p.line; column = p.column + 1 }))

-- the position after some bytes
abbrev pub after_bytes : Position → List ℕ → Position
after_bytes p [] = p
after_bytes p (byte ∷ bytes) = after_bytes (after_byte p byte) bytes

-- The position of an offset in a text. At an offset beyond the text it is that of the text's end.
abbrev pub position_at : (text : List ℕ) → (at : ℕ) → Position
position_at text at = after_bytes (record { line = 1; column = 1 }) (take at text)

-- the position in the file of a position in a text that begins in some line of the file
abbrev pub in_file : Source → Position → Position
in_file source p = record { line = p.line + (source.first_line - 1); column = p.column }

-- the position in the file of an offset in the text
abbrev pub position_in : Source → (at : ℕ) → Position
position_in source at = in_file source (position_at source.bytes.now at)

-- ---- worked examples: in the text `é`, LF, `b`, which has four bytes

pub of_second_character : position_at (195 ∷ 169 ∷ 10 ∷ 98 ∷ []) 2 ≡ record { line = 1; column = 2 }
of_second_character = refl

pub of_end : position_at (195 ∷ 169 ∷ 10 ∷ 98 ∷ []) 9 ≡ record { line = 2; column = 2 }
of_end = refl
