-- The part of a buffer that agrees with a content before an offset.
use Rattle.backreader.proofs.Common
use Common.{◌≡◌, ℕ, zero, suc, ◌+◌, ◌-◌, ◌≤◌, List, [], ◌∷◌, ◌++◌, length, take, drop, slice_range, Result, Ok, Err, sym, ap}
use Common.{◌∙◌, arith, lit<, IsOver, BackState, EndsAt, buffer_bytes, unread, w32, from_be_bytes, IsBytes, ReadsAs, body_before}
use Common.{greatest_body, header_bytes, least_body, length_bytes, number_before, Version, version_of, FrameFault, NotATreeFile}
use Common.{Damaged, Device, NoMemory, bytes_part, fits, length_part, read_at}
use Rattle.std.proofs.Math.Nat.{sub-zero}
use Rattle.std.proofs.lemmas.List.{drop-drop, drop-take, take-append-drop, take-take}
use Rattle.std.proofs.lemmas.List.Folds.{drop_split}
use lib.Seq.{take-add}
use Rattle.ag_value.proofs.Fields.{IsBytes-drop}
use Rattle.backreader.specs.declared.window.Window.{Window}
use Rattle.treefile.specs.declared.layout.FileVersion.{FileVersion}
use Rattle.treefile.specs.declared.layout.FileVersion.TheVariants.{One, Two}

-- ---- parts of lists

-- a part of a part of a list is a part of the list
range_part : (xs : List ℕ) (a b i j : ℕ) → i ≤ j → a + j ≤ b
    → slice_range (slice_range xs a b) i j ≡ slice_range xs (a + i) (a + j)
range_part xs a b i j less within =
    let k = b - a - i in
    let whole : b - a ≡ i + k = omega arith in
    let count : j - i ≡ a + j - (a + i) = omega arith in
    cc (drop-take i k (drop a xs), take-take (j - i) k (drop i (drop a xs)) (omega arith), drop-drop i a xs)

range_split : (xs : List ℕ) (a m b : ℕ) → a ≤ m → m ≤ b → slice_range xs a b ≡ slice_range xs a m ++ slice_range xs m b
range_split xs a m b p q =
    let e : b - a ≡ (m - a) + (b - m) = omega arith in
    let at : a + (m - a) ≡ m = omega arith in
    cc (take-add (m - a) (b - m) (drop a xs), drop-drop (m - a) a xs)

bytes_join : (xs ys : List ℕ) → IsBytes xs → IsBytes ys → IsBytes (xs ++ ys)
bytes_join [] ys p q i = q i
bytes_join (x ∷ xs) ys p q zero = p zero
bytes_join (x ∷ xs) ys p q (suc i) = bytes_join xs ys (λ (k : ℕ). p (suc k)) q i

bytes_later : (xs : List ℕ) (a b : ℕ) → a ≤ b → IsBytes (drop a xs) → IsBytes (drop b xs)
bytes_later xs a b less p =
    let there : a + (b - a) ≡ b = omega arith in
    rw (drop-drop (b - a) a xs, there) at (IsBytes-drop (b - a) (drop a xs) p)

-- ---- the unread bytes of a window, which are the bytes of a content before the window's offset

module _ (content : List ℕ) (w : Window) (s : EndsAt content w.at (unread w)) where
  long : length (unread w) ≡ w.to - w.from
  long = length_part w.buffer.items w.from w.to w.ordered (omega arith)

  -- a part of them is a part of the content; n and m are the numbers of bytes from the part's two ends to the offset
  part_occurs : (n m : ℕ) → n ≤ w.to - w.from → m ≤ n
      → slice_range w.buffer.items (w.to - n) (w.to - m) ≡ slice_range content (w.at - n) (w.at - m)
  part_occurs n m small less =
      let count = w.to - w.from in
      let begins : w.from + (count - n) ≡ w.to - n = omega arith in
      let ends : w.from + (count - m) ≡ w.to - m = omega arith in
      let starts : w.at - count + (count - n) ≡ w.at - n = omega arith in
      let stops : w.at - count + (count - m) ≡ w.at - m = omega arith in
      cc (
        long,
        s.occur,
        range_part w.buffer.items w.from w.to (count - n) (count - m) (omega arith) (omega arith),
        range_part content (w.at - count) w.at (count - n) (count - m) (omega arith) (omega arith),
      )

  -- if the last `n` of them are taken, the others end at the offset minus `n`
  pub taken_occurs : (n : ℕ) → n ≤ w.to - w.from → EndsAt content (w.at - n) (slice_range w.buffer.items w.from (w.to - n))
  taken_occurs n small =
      let count = w.to - w.from in
      let left = slice_range w.buffer.items w.from (w.to - n) in
      let size : length left ≡ count - n =
      length_part w.buffer.items w.from (w.to - n) (omega arith) (omega arith) ∙ omega arith in
      let start : w.from ≡ w.to - count = omega arith in
      let begins : w.at - length (unread w) ≡ w.at - n - length left = omega (arith, long, size) in
      record {
        within = omega (arith, s.within);
        occur = cc (long, part_occurs count n (omega arith) small);
        known = rw begins at s.known;
      }

  -- the number in the last four of them is the number before the offset
  pub number_occurs : length_bytes ≤ w.to - w.from
      → from_be_bytes w32 (slice_range w.buffer.items (w.to - length_bytes) w.to) ≡ number_before content w.at
  number_occurs enough = rw (sub-zero w.to, sub-zero w.at) at (ap (from_be_bytes w32) (part_occurs 4 0 enough (omega arith)))

  -- the n bytes before the last four of them are those of the content before the length at the offset
  pub body_occurs : (n : ℕ) → n + length_bytes ≤ w.to - w.from
      → slice_range w.buffer.items (w.to - (n + length_bytes)) (w.to - (n + length_bytes) + n) ≡ slice_range content
      (w.at - length_bytes - n) (w.at - length_bytes)
  body_occurs n enough =
      let ends : w.to - (n + 4) + n ≡ w.to - 4 = omega arith in
      let begins : w.at - (n + 4) ≡ w.at - 4 - n = omega arith in
      cc (part_occurs (n + 4) 4 enough (omega arith))

  -- if `n` more bytes are read before them, all these bytes end at the offset
  pub read_occurs : (ys : List ℕ) (n : ℕ) → length ys ≡ length w.buffer.items → IsBytes ys → n ≤ w.from
      → w.to - w.from + n ≤ w.at → drop w.from ys ≡ drop w.from w.buffer.items
      → slice_range ys (w.from - n) w.from ≡ slice_range content (w.at - (w.to - w.from + n))
      (w.at - (w.to - w.from + n) + (w.from - (w.from - n)))
      → EndsAt content w.at (slice_range ys (w.from - n) w.to)
  read_occurs ys n size bytes free room same read =
      let begin = w.from - n in
      let between = w.at - (w.to - w.from) in
      let start = w.at - (w.to - w.from + n) in
      let longer : length (slice_range ys begin w.to) ≡ w.to - w.from + n =
      length_part ys begin w.to (omega arith) (omega arith) ∙ omega arith in
      let middle : start + (w.from - begin) ≡ between = omega arith in
      let before : IsBytes (slice_range content start between) = rw (read, middle) at (bytes_part ys begin w.from bytes) in
      let whole : IsBytes (drop start content) =
      rw (drop_split content start between (omega arith)) (bytes_join _ _ before (rw long at s.known)) in
      record {
        within = s.within;
        occur =
            cc (
              long,
              s.occur,
              range_split ys begin w.from w.to (omega arith) w.ordered,
              range_split content start between w.at (omega arith) (omega arith),
            );
        known = rw longer whole;
      }

-- if the number n before an offset is a length that fits, the body before the offset is the n bytes before the length
pub body_at_hand : (version : Version) (content : List ℕ) (at n : ℕ) → n ≡ number_before content at → least_body ≤ n
    → n ≤ greatest_body version → header_bytes + n + length_bytes ≤ at
    → body_before version content at ≡ Ok (slice_range content (at - length_bytes - n) (at - length_bytes))
body_at_hand version content at n is least greatest room =
    let ends : at - 4 - n + n ≡ at - 4 = omega arith in
    read_at version content _ at n (sym is) (ap (slice_range content (at - 4 - n)) ends) (omega arith)
    (fits version at n least greatest room)

-- a content that was read up to its header has only bytes
pub all_bytes : (content : List ℕ) (state : BackState) → IsOver content state → state.progress.at ≡ header_bytes → IsBytes content
all_bytes content state over at =
    let following : IsBytes (drop header_bytes content) =
    bytes_later content _ header_bytes (omega (arith, at)) over.window.known in
    rw take-append-drop at (bytes_join (take header_bytes content) (drop header_bytes content) over.header following)

-- ---- results

-- a fault has the same meaning for every view of a body
pub exact_as_well : {X Y Z : Type 0} (view : X → Z) (another : Y → Z) (fault : FrameFault) (read : Result Z FrameFault)
    → ReadsAs view (Err fault) read → ReadsAs another (Err fault) read
exact_as_well view another NotATreeFile read exact = exact
exact_as_well view another (Damaged at) read exact = exact
exact_as_well view another Device read exact = exact
exact_as_well view another NoMemory read exact = exact

-- a new buffer has at most the size of the greatest frame
pub buffer_is_small : (version : FileVersion) → buffer_bytes ≤ greatest_body (version_of version) + length_bytes
buffer_is_small One = lit< tt
buffer_is_small Two = lit< tt
