-- The body of a frame that is cut out of a content.
use Rattle.treefile.proofs.Common
use Common.{◌≡◌, ◌≤◌, ◌+◌, ◌-◌, ℕ, List, ◌++◌, length, drop, true, Ok, arith, length-append, ap, append_assoc, get_or-drop, w32}
use Common.{from_be_bytes, Version, IsBytes, body_before, fits_before, header_bytes, length_bytes}
use Rattle.treefile.proofs.records.Frames.{read_at, slice_of}

-- if a content is cut at an offset, again before the four bytes of the length there, and again before the body before these
-- bytes, then the frame of this body ends at the offset
pub cut_out : (version : Version) (content frame following rest last before body : List ℕ) (at len : ℕ)
    → content ≡ frame ++ following → length frame ≡ at
    → frame ≡ rest ++ last → length rest ≡ at - 4 → from_be_bytes w32 last ≡ len → rest ≡ before ++ body
    → length before ≡ at - 4 - len
    → header_bytes + len + length_bytes ≤ at → fits_before version at len ≡ true → body_before version content at ≡ Ok body
cut_out version content frame following rest last before body at len e el f fl n g gl room fits =
    read_at version content body at len
    (cc (
      append_assoc rest last following,
      slice_of rest last following (at - 4) at fl (omega (arith, ap length f, length-append rest last)),
    ))
    (cc (
      append_assoc rest last following,
      append_assoc before body (last ++ following),
      slice_of before body (last ++ following) (at - 4 - len) (at - 4 - len + len) gl
          (omega (arith, ap length g, length-append before body)),
    ))
    (omega arith) fits

-- if a list has only bytes, the elements after its first n are bytes too
pub dropped_bytes : (n : ℕ) (xs : List ℕ) → IsBytes xs → IsBytes (drop n xs)
dropped_bytes n xs h i = rw (get_or-drop n xs i 0) (h (n + i))
