-- Reading a content as a tree file from its end to its header: this project's layout.
use Rattle.std.specs.Prelude.{◌≡◌, ℕ, ◌-◌, nat_eq, List, [], ◌∷◌, length, slice_range, Option, Some, None, Result, Ok, Err}
use Rattle.std.specs.Prelude.{if◌then◌else◌, refl}
use Rattle.std.specs.Int.{w16, from_be_bytes}
use Rattle.treefile.specs.declared.reading.FrameFault.{FrameFault}
use Rattle.treefile.specs.declared.reading.FrameFault.TheVariants.{NotATreeFile}
use Rattle.treefile.specs.framing.Ending.{body_before, fits_before, header_bytes, is_tree_file, length_bytes}
use Rattle.treefile.specs.records.TreeFile.{Version, file_of_fourteen, version_one}

-- the number of the pass in a header: the two bytes after the first four
abbrev pub pass_of : List ℕ → ℕ
pass_of content = from_be_bytes w16 (slice_range content 4 header_bytes)

-- The pass in the header of a content that begins as a tree file of a version, or B1 if it doesn't.
abbrev pub pass_in : Version → List ℕ → Result ℕ FrameFault
pass_in version content = if is_tree_file version content then Ok (pass_of content) else Err NotATreeFile

-- The offset at which the frame of this body begins, if that frame ends at `at`. The frame before it ends at this offset.
abbrev pub before_frame : ℕ → List ℕ → ℕ
before_frame at body = at - length_bytes - length body

-- the result with its body as `Some`; `next_before` gives `None` where the header ends
abbrev pub some_body : Result (List ℕ) FrameFault → Result (Option (List ℕ)) FrameFault
some_body (Ok body) = Ok (Some body)
some_body (Err fault) = Err fault

-- The result of reading before an offset: nothing if the header ends there, else the body of the frame that
-- ends there, or B2 if no frame does.
unfoldable pub next_before : Version → List ℕ → ℕ → Result (Option (List ℕ)) FrameFault
next_before version content at = if nat_eq at header_bytes then Ok None else some_body (body_before version content at)

-- From an offset back to the header a content has these bodies, first the one whose frame ends at the offset.
abbrev pub ReadsBack : Version → List ℕ → ℕ → List (List ℕ) → Type 0
ReadsBack version content at [] = next_before version content at ≡ Ok None
ReadsBack version content at (body ∷ bodies) =
    (next_before version content at ≡ Ok (Some body)) × ReadsBack version content (before_frame at body) bodies

-- From the offset `at` back to the offset `start` a content has these bodies, first the one whose frame ends at `at`.
abbrev pub ReadsTo : Version → List ℕ → ℕ → List (List ℕ) → ℕ → Type 0
ReadsTo version content at [] start = at ≡ start
ReadsTo version content at (body ∷ bodies) start =
    (next_before version content at ≡ Ok (Some body)) × ReadsTo version content (before_frame at body) bodies start

-- ---- worked examples

-- a file of 22 bytes has one body, whose frame begins after the header
pub fourteen_is_read : ReadsTo version_one file_of_fourteen 22 ((1 ∷ 0 ∷ 0 ∷ 0 ∷ 0 ∷ 0 ∷ 0 ∷ 0 ∷ 0 ∷ 0 ∷ 0 ∷ 14 ∷ []) ∷ []) 6
unfolding next_before body_before fits_before
fourteen_is_read = (refl, refl)
