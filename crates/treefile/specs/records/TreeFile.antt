-- The bytes of a tree file of a version: this project's layout. All numbers are big-endian.
use Rattle.std.specs.Prelude.{◌≡◌, ℕ, ◌+◌, ◌*◌, Bool, true, false, List, [], ◌∷◌, ◌++◌, length, pos, refl}
use Rattle.std.proofs.Common.{ap, sym, ◌∙◌}
use Rattle.std.specs.List.{flat_map}
use Rattle.std.specs.Int.{w16, w32, to_be_bytes}
use Rattle.ag_grammar.specs.declared.limits.TheConstants.{MAX_ATTRIBUTES, MAX_CHILDREN}
use Rattle.ag_value.specs.declared.value.Value.{Value}
use Rattle.ag_value.specs.declared.value.Value.TheVariants as value
use Rattle.ag_value.specs.declared.value.Value.TheVariants.{rolls-Num}
use Rattle.ag_value.specs.declared.value.Value.TheOpen.{Value-F}
use Rattle.ag_value.specs.declared.value.Value.TheFolds.{fold-roll-Value}
use Rattle.ag_value.specs.Spelling.{spelling_of, spelling_step}
use Rattle.treefile.specs.declared.body.Kind.{Kind}
use Rattle.treefile.specs.declared.body.Kind.TheVariants.{Node, Token}
use Rattle.treefile.specs.declared.layout.FileVersion.{FileVersion}
use Rattle.treefile.specs.declared.layout.FileVersion.TheVariants.{One, Two}

-- a version of tree files: the bytes with which each of its files begins, the greatest number of values of a
-- record, and whether the record of a node has copies of its children's synthesized values
pub record Version : Type 0 where
  pub magic : List ℕ
  pub max_values : ℕ
  pub has_copies : Bool

-- version 1: AGT1, and at most as many values as a symbol may have attributes
abbrev pub version_one : Version
version_one = record { magic = 65 ∷ 71 ∷ 84 ∷ 49 ∷ []; max_values = MAX_ATTRIBUTES; has_copies = false }

-- version 2: AGT2, and at most as many values again for each child that a node may have
abbrev pub version_two : Version
version_two =
    record { magic = 65 ∷ 71 ∷ 84 ∷ 50 ∷ []; max_values = MAX_ATTRIBUTES + MAX_CHILDREN * MAX_ATTRIBUTES; has_copies = true }

-- the version that a `FileVersion` of the code names
abbrev pub version_of : FileVersion → Version
version_of One = version_one
version_of Two = version_two

-- the first bytes of a file: those of its version, and in two bytes the number of the pass that wrote it (0: the parser)
abbrev pub header : Version → ℕ → List ℕ
header version pass = version.magic ++ to_be_bytes w16 pass

-- A frame is a body and then the body's length in four bytes, so that frames are read from the last to the first.
abbrev pub frame : List ℕ → List ℕ
frame body = body ++ to_be_bytes w32 (length body)

-- a file is its header and the frames of its bodies
abbrev pub file : Version → ℕ → List (List ℕ) → List ℕ
file version pass bodies = header version pass ++ flat_map frame bodies

-- the first byte of a body
abbrev pub kind_byte : Kind → ℕ
kind_byte Node = 0
kind_byte Token = 1

-- A body is a kind, a number in two bytes (of the production of a node, of the class of a token), and then spellings.
abbrev pub body_from : Kind → ℕ → List ℕ → List ℕ
body_from kind number spellings = kind_byte kind ∷ (to_be_bytes w16 number ++ spellings)

-- the body of a record: the spellings of its values, one after the other
abbrev pub body_of : Kind → ℕ → List Value → List ℕ
body_of kind number values = body_from kind number (flat_map spelling_of values)

-- The file of version 1 and pass 0 with one record, a token of class 0 with the value 14: 22 bytes,
-- 41475431 0000, 01 0000 00 000000000000000e, 0000000c.
abbrev pub file_of_fourteen : List ℕ
file_of_fourteen = 65 ∷ 71 ∷ 84 ∷ 49 ∷ 0 ∷ 0 ∷ 1 ∷ 0 ∷ 0 ∷ 0 ∷ 0 ∷ 0 ∷ 0 ∷ 0 ∷ 0 ∷ 0 ∷ 0 ∷ 14 ∷ 0 ∷ 0 ∷ 0 ∷ 12 ∷ []

-- the spelling of the number 14: the tag 0, and the number in eight bytes
fourteen : spelling_of (value.Num (pos 14)) ≡ 0 ∷ 0 ∷ 0 ∷ 0 ∷ 0 ∷ 0 ∷ 0 ∷ 0 ∷ 14 ∷ []
fourteen = ap spelling_of (sym (rolls-Num (pos 14))) ∙ fold-roll-Value (List ℕ) spelling_step (Value-F.Num (pos 14))

-- ---- worked examples

pub bytes_of_fourteen : file version_one 0 (body_of Token 0 (value.Num (pos 14) ∷ []) ∷ []) ≡ file_of_fourteen
bytes_of_fourteen = ap (λ (spelling : List ℕ). file version_one 0 (body_from Token 0 (spelling ++ []) ∷ [])) fourteen

-- a node of production 258 without values in a file of version 1 and pass 1
pub bytes_of_node : file version_one 1 (body_of Node 258 [] ∷ []) ≡ 65 ∷ 71 ∷ 84 ∷ 49 ∷ 0 ∷ 1 ∷ 0 ∷ 1 ∷ 2 ∷ 0 ∷ 0 ∷ 0 ∷ 3 ∷ []
bytes_of_node = refl
