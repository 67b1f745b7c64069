-- Operations on numbers, and conversions between numbers and texts. If an argument is an error, `strict` of `Arguments` replaces
-- these results by the error. `from_numbers`, `number_at` and `decimal_at` take the outermost levels of values (`out-Value`), and
-- the definition after each takes the values. All definitions are this project's.
use Rattle.std.specs.Prelude.{ℕ, zero, suc, ◌==◌, ℤ, pos, negsuc, neg_ℤ, int_div, int_rem, Bool, ◌&&◌, nat_lt, List, [], ◌∷◌}
use Rattle.std.specs.Prelude.{length, Option, Some, None, if◌then◌else◌}
use Rattle.std.specs.Char.{is_ascii_digit}
use Rattle.std.specs.Fmt.{signed_decimal}
use Rattle.std.specs.List.{list_all}
use Rattle.std.specs.Str.Parse.{digits_value}
use Rattle.ag_value.specs.declared.value.ErrorCode.TheVariants.{Overflow, Divide, Kind, Number}
use Rattle.ag_value.specs.declared.value.Value.{Value, out-Value}
use Rattle.ag_value.specs.declared.value.Value.TheOpen.{Value-F}
use Rattle.ag_value.specs.declared.value.Value.TheVariants as value
use Rattle.ag_value.specs.Well.{is_i64}

-- the number if it is in the range of i64, else the error `overflow`
abbrev pub number_value : ℤ → Value
number_value z = if is_i64 z then value.Num z else value.Fault Overflow

-- from a divisor and a value, which is a quotient or a remainder: the error `divide` if the divisor is zero, else the value
abbrev pub quotient_of : ℤ → Value → Value
quotient_of (pos zero) quotient = value.Fault Divide
quotient_of (pos (suc n)) quotient = quotient
quotient_of (negsuc n) quotient = quotient

-- the quotient, truncated towards zero; the error `divide` if the divisor is zero, and `overflow` if the quotient is out of range
abbrev pub quotient : ℤ → ℤ → Value
quotient m n = quotient_of n (number_value (int_div m n))

-- the remainder, with the sign of the dividend; the error `divide` if the divisor is zero
abbrev pub remainder : ℤ → ℤ → Value
remainder m n = quotient_of n (value.Num (int_rem m n))

-- from the outermost levels of two values: the result of f if both are numbers, else the error `kind`
abbrev pub from_numbers : (ℤ → ℤ → Value) → Value-F Value → Value-F Value → Value
from_numbers f (Value-F.Num m) (Value-F.Num n) = f m n
from_numbers f left right = value.Fault Kind

-- the same, from the values
abbrev pub of_numbers : (ℤ → ℤ → Value) → Value → Value → Value
of_numbers f left right = from_numbers f (out-Value left) (out-Value right)

-- whether a text is one or more ASCII digits
abbrev pub is_digits : List ℕ → Bool
is_digits digits = nat_lt 0 (length digits) && list_all is_ascii_digit digits

-- The number that digits denote, after `sign`, which negates it or leaves it as it is. `None` if there is no digit, if another
-- byte is among them, or if the number after `sign` is not in the range of i64.
abbrev pub signed_number : (ℤ → ℤ) → List ℕ → Option ℤ
signed_number sign digits =
    if is_digits digits && is_i64 (sign (pos (digits_value 10 digits))) then Some (sign (pos (digits_value 10 digits))) else None

-- the number that a text denotes: digits, with an optional `-` (byte 45) before them; `None` if the text has another form, or the
-- number is not in the range of i64
abbrev pub spelled_number : List ℕ → Option ℤ
spelled_number [] = None
spelled_number (b ∷ bytes) = if b == 45 then signed_number neg_ℤ bytes else signed_number (λ z. z) (b ∷ bytes)

-- the number, if there is one, else the error `number`
abbrev pub number_or_fault : Option ℤ → Value
number_or_fault (Some z) = value.Num z
number_or_fault None = value.Fault Number

-- `number(t)`: the number that a text denotes, or the error `number` if it denotes none; the error `kind` for other values
abbrev pub number_at : Value-F Value → Value
number_at (Value-F.Text text) = number_or_fault (spelled_number text)
number_at v = value.Fault Kind

-- `number(t)`
abbrev pub number_of : Value → Value
number_of t = number_at (out-Value t)

-- `text(n)`: a number in decimal, with a `-` before the digits if it is negative; the error `kind` for other values
abbrev pub decimal_at : Value-F Value → Value
decimal_at (Value-F.Num n) = value.Text (signed_decimal n)
decimal_at v = value.Fault Kind

-- `text(n)`
abbrev pub decimal_of : Value → Value
decimal_of n = decimal_at (out-Value n)
