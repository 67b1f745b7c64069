-- A body is read exactly if its frame ends at the offset.
use Rattle.treefile.proofs.Common
use Common.{◌≡◌, ℕ, ◌+◌, ◌-◌, ◌^◌, ◌<◌, ◌≤◌, ◌⊎◌, Bool, true, false, cond, inl, inr, List, ◌++◌, length, take, drop, slice_range}
use Common.{Ok, Err, refl, ◌∙◌, append_assoc, arith, sym, nat_lt, w32, to_be_bytes, le-ltb, lt-ltb, nat_tests, take_at, drop_at}
use Common.{get_or-drop, get_or-take, get_or_past, FrameFault, Damaged, Version, frame, IsBytes, IsUsable, length_bytes}
use Common.{least_body, greatest_body, header_bytes}
use Rattle.std.proofs.lemmas.List.{take-append-drop, length-append, length-take, length-take-le, length-drop}
use Rattle.std.proofs.lemmas.List.Folds.{drop_split}
use Rattle.std.proofs.lemmas.Nat.{be_bytes_4, from_be_bytes-to_be_bytes_4}
use Rattle.treefile.specs.framing.Ending.{IsBodyBefore, body_before, fits_before, number_before}

-- ---- reading a content whose frame is known

pub fits : (version : Version) (at len : ℕ) → least_body ≤ len → len ≤ greatest_body version
    → header_bytes + len + length_bytes ≤ at → fits_before version at len ≡ true
unfolding fits_before
fits version at len a b c = grind (arith, nat_tests)

pub read_at : (version : Version) (content body : List ℕ) (at len : ℕ) → number_before content at ≡ len
    → slice_range content (at - 4 - len) (at - 4 - len + len) ≡ body → header_bytes + length_bytes ≤ at
    → fits_before version at len ≡ true → body_before version content at ≡ Ok body
unfolding body_before
read_at version content body at len number part room fit = rw (le-ltb at 10 room, number, fit, part) refl

-- the part of a content between a prefix and a rest
pub slice_of : (prefix part rest : List ℕ) (i j : ℕ) → length prefix ≡ i → length part ≡ j - i
    → slice_range (prefix ++ (part ++ rest)) i j ≡ part
slice_of prefix part rest i j e f = cc (drop_at prefix (part ++ rest) i e, take_at part rest (j - i) f)

-- the length and the body of a frame between a prefix and a rest
number_of_frame : (prefix body rest : List ℕ) (at : ℕ) → length prefix + length body + 4 ≡ at → length body < 2 ^ 32
    → number_before (prefix ++ (frame body ++ rest)) at ≡ length body
number_of_frame prefix body rest at ends small =
    let number = to_be_bytes w32 (length body) in
    cc (
      append_assoc body number rest,
      append_assoc prefix body (number ++ rest),
      slice_of (prefix ++ body) number rest (at - 4) at (omega (arith, length-append prefix body)) (omega arith),
      from_be_bytes-to_be_bytes_4 (length body) small,
    )

body_of_frame : (prefix body rest : List ℕ) (at : ℕ) → length prefix + length body + 4 ≡ at
    → slice_range (prefix ++ (frame body ++ rest)) (at - 4 - length body) (at - 4 - length body + length body) ≡ body
body_of_frame prefix body rest at ends =
    let number = to_be_bytes w32 (length body) in
    rw (append_assoc body number rest)
    (slice_of prefix body (number ++ rest) (at - 4 - length body) (at - 4 - length body + length body) (omega arith)
    (omega arith))

pub frame_is_read : (version : Version) (content body : List ℕ) (at : ℕ) → IsUsable version → IsBodyBefore version content at body
    → body_before version content at ≡ Ok body
frame_is_read version content body at usable s =
    rw s.occurs
    (read_at version (s.prefix ++ (frame body ++ s.rest)) body at (length body)
    (number_of_frame s.prefix body s.rest at s.ends (omega (arith, s.greatest, usable.narrow)))
    (body_of_frame s.prefix body s.rest at s.ends)
    (omega (arith, s.least, s.following, s.ends))
    (fits version at (length body) s.least s.greatest (omega (arith, s.following, s.ends))))

-- ---- the content, if the body that was read is known

record Fits (version : Version) (at len : ℕ) : Type 0 where
  least : least_body ≤ len
  greatest : len ≤ greatest_body version
  room : header_bytes + len + length_bytes ≤ at

pub bytes_part : (bytes : List ℕ) (from to : ℕ) → IsBytes bytes → IsBytes (slice_range bytes from to)
bytes_part bytes from to is i =
    grind (
      arith,
      is (from + i),
      get_or-take (to - from) (drop from bytes) i 0,
      get_or-drop from bytes i 0,
      get_or_past (slice_range bytes from to) i 0,
      length-take (to - from) (drop from bytes),
    )

pub length_part : (content : List ℕ) (from to : ℕ) → from ≤ to → to ≤ length content
    → length (slice_range content from to) ≡ to - from
length_part content from to a b = omega (arith, length-take (to - from) (drop from content), length-drop from content)

-- a content in four parts
parts : (content : List ℕ) (a b c : ℕ) → a ≤ b → b ≤ c
    → content ≡ take a content ++ ((slice_range content a b ++ slice_range content b c) ++ drop c content)
parts content a b c p q =
    cc (
      take-append-drop a content,
      drop_split content a b p,
      drop_split content b c q,
      append_assoc (slice_range content a b) (slice_range content b c) (drop c content),
    )

occurs_at : (version : Version) (content : List ℕ) (at len from : ℕ) → IsBytes content → at ≤ length content
    → number_before content at ≡ len → Fits version at len → from + len + 4 ≡ at
    → IsBodyBefore version content at (slice_range content from (from + len))
occurs_at version content at len from bytes within number f ends =
    let body = slice_range content from (from + len) in
    let size : length body ≡ len = length_part content from (from + len) (omega arith) (omega arith) ∙ omega arith in
    let start : at - 4 ≡ from + len = omega arith in
    let spelled =
    be_bytes_4 (slice_range content (at - 4) at) len
    (length_part content (at - 4) at (omega arith) within ∙ omega (arith, f.room))
    (bytes_part content (at - 4) at bytes) (sym number) in
    let framed : slice_range content (from + len) at ≡ to_be_bytes w32 (length body) = cc in
    record {
      prefix = take from content;
      rest = drop at content;
      occurs = cc (parts content from (from + len) at (omega arith) (omega arith));
      ends = omega (arith, length-take-le from content (omega arith), size);
      following = omega (arith, length-take-le from content (omega arith), f.room);
      least = omega (arith, size, f.least);
      greatest = omega (arith, size, f.greatest);
    }

pub read_is_frame : (version : Version) (content body : List ℕ) (at : ℕ) → IsBytes content → at ≤ length content
    → body_before version content at ≡ Ok body → IsBodyBefore version content at body
unfolding body_before fits_before
read_is_frame version content body at bytes within e =
    let len = number_before content at in
    let from = at - 4 - len in
    let f : Fits version at len =
    record { least = grind (arith, nat_tests); greatest = grind (arith, nat_tests); room = grind (arith, nat_tests) } in
    let same : slice_range content from (from + len) ≡ body = grind (arith, nat_tests) in
    rw same at (occurs_at version content at len from bytes within refl f (omega (arith, f.room)))

-- a body is read, or the offset is reported
pub answers : (version : Version) (content : List ℕ) (at : ℕ)
    → ((body : List ℕ) × (body_before version content at ≡ Ok body)) ⊎ (body_before version content at ≡ Err (Damaged at))
unfolding body_before
answers version content at =
    by_tests (nat_lt at 10) (fits_before version at (number_before content at))
    (slice_range content (at - 4 - number_before content at) (at - 4 - number_before content at + number_before content at))
    (Damaged at)
  where
    by_tests : (late fit : Bool) (body : List ℕ) (fault : FrameFault)
        → ((x : List ℕ) × (cond late (Err fault) (cond fit (Ok body) (Err fault)) ≡ Ok x))
        ⊎ (cond late (Err fault) (cond fit (Ok body) (Err fault)) ≡ Err fault)
    by_tests true fit body fault = inr refl
    by_tests false true body fault = inl (body, refl)
    by_tests false false body fault = inr refl

pub damaged_exact : (version : Version) (content : List ℕ) (at : ℕ) → IsBytes content → at ≤ length content
    → ((body : List ℕ) → IsBodyBefore version content at body → ⊥) → body_before version content at ≡ Err (Damaged at)
damaged_exact version content at bytes within none =
    elim (answers version content at) [
      | inl found ↦ absurd (none found.0 (read_is_frame version content found.0 at bytes within found.1))
      | inr exact ↦ exact
    ]

-- no frame fits before an offset below 10
pub none_before : (version : Version) (content : List ℕ) (at : ℕ) → at < 10 → body_before version content at ≡ Err (Damaged at)
unfolding body_before
none_before version content at short = rw (lt-ltb at 10 short) refl
