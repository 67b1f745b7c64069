-- The end of a content, read as a tree file of a version from its end: this project's layout.
use Rattle.std.specs.Prelude.{◌≡◌, ℕ, ◌+◌, ◌*◌, ◌-◌, ◌^◌, ◌<◌, ◌≤◌, Bool, ◌&&◌, nat_lt, nat_le, nat_eq, List, [], ◌∷◌, ◌++◌}
use Rattle.std.specs.Prelude.{length, slice_index, slice_range, Result, Ok, Err, if◌then◌else◌, refl}
use Rattle.std.specs.Int.{w32, from_be_bytes}
use Rattle.std.specs.List.{starts_with}
use Rattle.std.proofs.Common.{lit<}
use Rattle.ag_value.specs.Measure.{max_weight}
use Rattle.treefile.specs.declared.reading.FrameFault.{FrameFault}
use Rattle.treefile.specs.declared.reading.FrameFault.TheVariants.{NotATreeFile, Damaged, Device, NoMemory}
use Rattle.treefile.specs.records.TreeFile.{Version, version_one, version_two, header, frame, file_of_fourteen}

-- the number of bytes of a header
abbrev pub header_bytes : ℕ
header_bytes = 6

-- the number of bytes of the length after a body
abbrev pub length_bytes : ℕ
length_bytes = 4

-- the least number of bytes of a body: its kind and its number
abbrev pub least_body : ℕ
least_body = 3

-- the greatest number of bytes of a body: the least, and as many values as the version allows, each of the
-- greatest weight of a well value
abbrev pub greatest_body : Version → ℕ
greatest_body version = least_body + version.max_values * max_weight

-- The length of a body is within the limits of a version.
pub record IsBody (version : Version) (body : List ℕ) : Type 0 where
  pub least : least_body ≤ length body
  pub greatest : length body ≤ greatest_body version

-- A version whose files can be read: its magic has four bytes, and the length of its greatest body fits four.
pub record IsUsable (version : Version) : Type 0 where
  pub four : length version.magic ≡ 4
  pub narrow : greatest_body version < 2 ^ 32

-- The frame of this body ends at the offset: all of it is after the header, and the length of its body is
-- within the limits.
pub record IsBodyBefore (version : Version) (content : List ℕ) (at : ℕ) (body : List ℕ) : Type 0 where
  pub prefix : List ℕ
  pub rest : List ℕ
  pub occurs : content ≡ prefix ++ (frame body ++ rest)
  pub ends : length prefix + length body + length_bytes ≡ at
  pub following : header_bytes ≤ length prefix
  pub least : least_body ≤ length body
  pub greatest : length body ≤ greatest_body version

-- each number of a list is a byte
abbrev pub IsBytes : List ℕ → Type 0
IsBytes bytes = (i : ℕ) → slice_index bytes i < 256

-- A content begins as a tree file of a version: it has room for a header, and its first bytes are the version's magic. The bytes
-- after the header don't matter.
unfoldable pub is_tree_file : Version → List ℕ → Bool
is_tree_file version content = nat_le header_bytes (length content) && starts_with nat_eq content version.magic

-- the number in the four bytes before an offset
abbrev pub number_before : List ℕ → ℕ → ℕ
number_before content at = from_be_bytes w32 (slice_range content (at - length_bytes) at)

-- A frame with a body of this length may end at the offset: the length is within the limits, and between the
-- header and the offset there is room for the body and its length.
unfoldable pub fits_before : Version → ℕ → ℕ → Bool
fits_before version at len =
    nat_le least_body len && nat_le len (greatest_body version) && nat_le (header_bytes + len + length_bytes) at

-- The body of the frame that ends at the offset, or B2 with the offset if no frame ends there: if fewer than four bytes are
-- between the header and the offset, or if the number in the four bytes before the offset is not a length that fits.
unfoldable pub body_before : Version → List ℕ → ℕ → Result (List ℕ) FrameFault
body_before version content at =
    let len = number_before content at in
    let from = at - length_bytes - len in
    if nat_lt at (header_bytes + length_bytes) then Err (Damaged at)
    else if fits_before version at len then Ok (slice_range content from (from + len))
    else Err (Damaged at)

-- the body of the frame that ends at the end of the content, or B2 with the offset of that end if no frame ends there; B1 if the
-- content doesn't begin as a tree file
unfoldable pub last_body_of : Version → List ℕ → Result (List ℕ) FrameFault
last_body_of version content =
    if is_tree_file version content then body_before version content (length content) else Err NotATreeFile

-- The result of a call agrees with the result of reading the content, unless the device failed or memory was refused. `view`
-- gives the part of the call's result that is compared.
abbrev pub ReadsAs : {X Y : Type 0} → (X → Y) → Result X FrameFault → Result Y FrameFault → Type 0
ReadsAs view (Ok x) read = read ≡ Ok (view x)
ReadsAs view (Err NotATreeFile) read = read ≡ Err NotATreeFile
ReadsAs view (Err (Damaged at)) read = read ≡ Err (Damaged at)
ReadsAs view (Err Device) read = Unit {0}
ReadsAs view (Err NoMemory) read = Unit {0}

-- ---- worked examples

-- versions 1 and 2 are usable
pub version_one_usable : IsUsable version_one
version_one_usable = record { four = refl; narrow = lit< tt }

pub version_two_usable : IsUsable version_two
version_two_usable = record { four = refl; narrow = lit< tt }

-- the one record of a file of 22 bytes
pub last_of_fourteen : last_body_of version_one file_of_fourteen ≡ Ok (1 ∷ 0 ∷ 0 ∷ 0 ∷ 0 ∷ 0 ∷ 0 ∷ 0 ∷ 0 ∷ 0 ∷ 0 ∷ 14 ∷ [])
unfolding last_body_of body_before fits_before is_tree_file
last_of_fourteen = refl

-- no frame ends at the end of a header alone
pub last_of_header : last_body_of version_one (header version_one 0) ≡ Err (Damaged 6)
unfolding last_body_of body_before fits_before is_tree_file
last_of_header = refl

-- five bytes are not a header
pub last_of_five : last_body_of version_one (65 ∷ 71 ∷ 84 ∷ 49 ∷ 0 ∷ []) ≡ Err NotATreeFile
unfolding last_body_of body_before fits_before is_tree_file
last_of_five = refl
