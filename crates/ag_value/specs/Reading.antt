-- Reading a value from a prefix of some bytes, as plain functions on lists. Functions with names that end with `_at`, except
-- `code_at`, read from the beginning of the bytes (in `operations` such names mean something else). `value_at` with 64 levels
-- reads the spelling of each well value. It also reads spellings of more than 1,048,576 bytes, whose values are too heavy, but
-- satisfy all other conditions of well values. Lemmas in `proofs` show both.
use Rattle.std.specs.Prelude.{◌≡◌, ℕ, zero, suc, List, [], ◌∷◌, ◌++◌, length, take, drop, map, Option, Some, None, Result, Ok}
use Rattle.std.specs.Prelude.{Err, nat_lt, if◌then◌else◌}
use Rattle.std.specs.Option.{option_and_then}
use Rattle.std.specs.Int.{Width, w32, w64, byte_len, from_be_bytes, cast_signed}
use Rattle.std.specs.Str.{is_utf8}
use Rattle.ag_value.specs.declared.fault.ValueFault.{ValueFault}
use Rattle.ag_value.specs.declared.fault.ValueFault.TheVariants as fault
use Rattle.ag_value.specs.declared.value.Value.{Value}
use Rattle.ag_value.specs.declared.value.Value.TheVariants as v
use Rattle.ag_value.specs.declared.value.ErrorCode.{ErrorCode}
use Rattle.ag_value.specs.declared.value.ErrorCode.TheVariants as code
use Rattle.ag_value.specs.Well.{are_keys, key_of}

-- the result of reading: what was read, and the bytes after it; or `None` if the bytes don't begin with such a thing
abbrev pub Read : Type 0 → Type 0
Read A = Option (A × List ℕ)

-- the result of f for the value of the option o, or `None` if o is `None`
infixl 10 ◌>>=◌
abbrev pub ◌>>=◌ : {A B : Type 0} → Option A → (A → Option B) → Option B
o >>= f = option_and_then f o

-- What is claimed if a function of the code fails. `read` is the result of the function here for the same bytes. After Malformed
-- (V1), `read` is `None`; after NoMemory, nothing is claimed.
abbrev pub Fails : {Y : Type 0} → ValueFault → Option Y → Type 0
Fails fault.Malformed read = read ≡ None
Fails fault.NoMemory read = Unit {0}

-- A function of the code agrees with `read`, the result of the function here for the same bytes: after Ok of x, `read` is
-- `view x`; after a fault, its claim `Fails` holds.
abbrev pub Agrees : {X Y : Type 0} → (X → Y) → Result X ValueFault → Option Y → Type 0
Agrees view (Ok x) read = read ≡ Some (view x)
Agrees view (Err e) read = Fails e read

-- an unsigned big-endian number of a given width; `None` if there are fewer bytes
abbrev pub number_at : Width → List ℕ → Read ℕ
number_at w bytes =
    if nat_lt (length bytes) (byte_len w) then None else Some (from_be_bytes w (take (byte_len w) bytes), drop (byte_len w) bytes)

-- a text: its length in four bytes, and that many bytes, which are UTF-8
unfoldable pub text_at : List ℕ → Read (List ℕ)
text_at bytes = number_at w32 bytes >>= λ n.
    if nat_lt (length n.1) n.0 then None else (if is_utf8 (take n.0 n.1) then Some (take n.0 n.1, drop n.0 n.1) else None)

-- the error with this number (no bytes are read), from 1 to 8; `None` for any other number
abbrev pub code_at : ℕ → Option ErrorCode
code_at zero = None
code_at (suc zero) = Some code.Overflow
code_at (suc (suc zero)) = Some code.Divide
code_at (suc (suc (suc zero))) = Some code.Kind
code_at (suc (suc (suc (suc zero)))) = Some code.Index
code_at (suc (suc (suc (suc (suc zero))))) = Some code.Key
code_at (suc (suc (suc (suc (suc (suc zero)))))) = Some code.Number
code_at (suc (suc (suc (suc (suc (suc (suc zero))))))) = Some code.Big
code_at (suc (suc (suc (suc (suc (suc (suc (suc zero)))))))) = Some code.Deep
code_at (suc (suc (suc (suc (suc (suc (suc (suc (suc b))))))))) = None

-- an error, by the byte of its number, which comes after the byte of the kind
unfoldable pub fault_at : List ℕ → Read Value
fault_at [] = None
fault_at (b ∷ rest) = code_at b >>= λ c. Some (v.Fault c, rest)

-- the list `prefix` of the items that were read before, followed by n more, which `item` reads one after the other from the bytes
unfoldable pub all_at : {A : Type 0} → (List ℕ → Read A) → ℕ → List A → List ℕ → Read (List A)
all_at item zero prefix bytes = Some (prefix, bytes)
all_at item (suc n) prefix bytes = item bytes >>= λ first. all_at item n (prefix ++ first.0 ∷ []) first.1

-- a key, and a value read by `item`
unfoldable pub pair_at : (List ℕ → Read Value) → List ℕ → Read (List ℕ × Value)
pair_at item bytes = text_at bytes >>= λ key. item key.1 >>= λ value. Some ((key.0, value.0), value.1)

-- a value that a list or table may contain (`is_item`), of a depth of at most `levels`
unfoldable pub item_at : ℕ → List ℕ → Read Value
item_at levels [] = None
item_at levels (zero ∷ rest) = number_at w64 rest >>= λ n. Some (v.Num (cast_signed w64 n.0), n.1)
item_at levels (suc zero ∷ rest) = text_at rest >>= λ text. Some (v.Text text.0, text.1)
item_at zero (suc (suc zero) ∷ rest) = None
item_at (suc levels) (suc (suc zero) ∷ rest) =
    number_at w32 rest >>= λ n. all_at (item_at levels) n.0 [] n.1 >>= λ items. Some (v.List items.0, items.1)
item_at zero (suc (suc (suc zero)) ∷ rest) = None
item_at (suc levels) (suc (suc (suc zero)) ∷ rest) =
    number_at w32 rest >>= λ n. all_at (pair_at (item_at levels)) n.0 [] n.1 >>= λ pairs.
    if are_keys (map key_of pairs.0) then Some (v.Table pairs.0, pairs.1) else None
item_at levels (suc (suc (suc (suc b))) ∷ rest) = None

-- an error, or a value that a list or table may contain, of a depth of at most `levels`
unfoldable pub value_at : ℕ → List ℕ → Read Value
value_at levels [] = None
value_at levels (zero ∷ rest) = item_at levels (zero ∷ rest)
value_at levels (suc zero ∷ rest) = item_at levels (suc zero ∷ rest)
value_at levels (suc (suc zero) ∷ rest) = item_at levels (suc (suc zero) ∷ rest)
value_at levels (suc (suc (suc zero)) ∷ rest) = item_at levels (suc (suc (suc zero)) ∷ rest)
value_at levels (suc (suc (suc (suc zero))) ∷ rest) = fault_at rest
value_at levels (suc (suc (suc (suc (suc b)))) ∷ rest) = None
