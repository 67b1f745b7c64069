-- The encoding of a table, by the parts of the table.
use Rattle.std.proofs.Common.{◌≡◌, ℕ, ◌+◌, ◌-◌, ◌<◌, ◌≤◌, min, List, [], ◌∷◌, ◌++◌, length, map, sum, take, drop, refl, ap}
use Rattle.std.proofs.Common.{append_assoc, arith, length-append, ◌⊎◌, inl, inr}
use Rattle.std.proofs.lemmas.Bool.{cases_lt}
use Rattle.std.proofs.lemmas.List.{append-nil, drop-append-le, drop-drop, drop_at, length-drop, map-append, take-append-le}
use Rattle.std.proofs.lemmas.List.{take-append-drop, take-take, drop-take}
use Rattle.std.specs.Int.{w32, to_be_bytes}
use Rattle.ag_value.specs.declared.value.Value.{Value}
use Rattle.ag_value.specs.declared.value.Value.TheVariants as v
use Rattle.ag_value.specs.declared.value.Value.TheVariants.{outs-Table}
use Rattle.ag_value.specs.Measure.{weight_of_pair}
use Rattle.ag_value.specs.Spelling.{counted, joined, spelling_of, spelling_of_pair}
use Rattle.ag_value.proofs.Layers.{spelling-Table, weight-Table}
use Rattle.ag_value.proofs.Codec.{prefix_free}
use Rattle.ag_value.proofs.Fields.{text_again}
use Rattle.ag_value.proofs.Lengths.{length-spelling}
use Rattle.ag_value.specs.Well.{IsWell}
use Rattle.table_tree.specs.Entries.{IsEntry}
use Rattle.table_tree.specs.Pieces.{IsPiece}
use Rattle.table_tree.specs.Splits.{IsSplit}
use Rattle.table_tree.specs.Totals.{AreTotals}
use Rattle.table_tree.specs.declared.totals.Totals.{Totals}
use Rattle.table_tree.proofs.Keys.{Pair}

-- the encodings of pairs, one after the other
abbrev pub encodings : List Pair → List ℕ
encodings pairs = joined (map spelling_of_pair pairs)

joined-append : (xs ys : List (List ℕ)) → joined (xs ++ ys) ≡ joined xs ++ joined ys
joined-append [] ys = refl
joined-append (x ∷ xs) ys = cc (joined-append xs ys, append_assoc x (joined xs) (joined ys))

pub encodings_around : (before : List Pair) (p : Pair) (after : List Pair)
    → encodings (before ++ p ∷ after) ≡ encodings before ++ (spelling_of_pair p ++ encodings after)
encodings_around before p after =
    cc (
      map-append spelling_of_pair before (p ∷ after),
      joined-append (map spelling_of_pair before) (map spelling_of_pair (p ∷ after)),
    )

-- the encoding of a table: five bytes, and those of the pairs
pub table_encoding : (ps : List Pair)
    → spelling_of (v.Table ps) ≡ (3 ∷ to_be_bytes w32 (length ps)) ++ encodings ps
table_encoding ps = spelling-Table ps

-- lengths
pub length-table : (ps : List Pair) → length (spelling_of (v.Table ps)) ≡ 5 + length (encodings ps)
length-table ps =
    let four : length (to_be_bytes w32 (length ps)) ≡ 4 = refl in
    omega (arith, ap length (table_encoding ps), length-append (to_be_bytes w32 (length ps)) (encodings ps))

pub length-encodings : (ps : List Pair) → length (encodings ps) ≡ sum (map weight_of_pair ps)
length-encodings ps = omega (arith, length-table ps, length-spelling (v.Table ps), weight-Table ps)

pub length-spelling_of_pair : (p : Pair) → length (spelling_of_pair p) ≡ weight_of_pair p
length-spelling_of_pair p =
    let four : length (to_be_bytes w32 (length p.0)) ≡ 4 = refl in
    omega (
      arith,
      length-append (to_be_bytes w32 (length p.0)) p.0,
      length-append (counted p.0) (spelling_of p.1),
      length-spelling p.1,
    )

-- the numbers of bytes of the encodings of the pairs before a pair, of the pair, and of all pairs
pub record AreLengths (ps before : List Pair) (p : Pair) (after : List Pair) (start own : ℕ) : Type 0 where
  pub first : start ≡ length (encodings before)
  pub middle : own ≡ length (spelling_of_pair p)
  pub whole : length (encodings ps) ≡ start + own + length (encodings after)

-- ---- pieces

piece_more : {bytes piece : List ℕ} (more : List ℕ) → IsPiece bytes piece → IsPiece (bytes ++ more) piece
piece_more {bytes} {piece} more is =
    record { after = is.after ++ more; parts = cc (append_assoc piece is.after more); some = is.some }

past : (offset : ℕ) (xs ys : List ℕ) → length xs ≤ offset → drop offset (xs ++ ys) ≡ drop (offset - length xs) ys
past offset xs ys le =
    let n : ℕ = length xs in
    let sum : offset ≡ n + (offset - n) = omega arith in
    cc (sum, drop-drop (offset - n) n (xs ++ ys), drop_at xs ys n refl)

module _ {ps before : List Pair} {p : Pair} {after : List Pair} (s : IsSplit ps before p after) where
  pub split_encodings : encodings ps ≡ encodings before ++ (spelling_of_pair p ++ encodings after)
  split_encodings = cc (encodings_around before p after)

  -- the lengths of the encodings of the parts, for a caller that has the totals of the first part, and the bytes of the pair
  pub part_lengths : {totals : Totals} (own : List ℕ) → AreTotals before totals → own ≡ spelling_of_pair p
      → AreLengths ps before p after totals.bytes (length own)
  part_lengths own are is = record {
    first = omega (arith, length-encodings before);
    middle = ap length is;
    whole =
        omega (
          arith,
          ap length is,
          length-encodings before,
          ap length split_encodings,
          length-append (encodings before) (spelling_of_pair p ++ encodings after),
          length-append (spelling_of_pair p) (encodings after),
        );
  }

  -- a piece of the encodings of the pairs before a pair is a piece of all encodings
  pub piece_before : (offset : ℕ) {piece : List ℕ} → offset < length (encodings before)
      → IsPiece (drop offset (encodings before)) piece → IsPiece (drop offset (encodings ps)) piece
  piece_before offset lt is =
      let rest : List ℕ = spelling_of_pair p ++ encodings after in
      rw (split_encodings, drop-append-le offset (encodings before) rest (omega arith)) (piece_more rest is)

  -- so is the rest of the encoding of the pair
  pub piece_here : (offset skip : ℕ) {piece : List ℕ} → length (encodings before) ≤ offset
      → skip ≡ offset - length (encodings before) → skip < length (spelling_of_pair p) → piece ≡ drop skip (spelling_of_pair p)
      → IsPiece (drop offset (encodings ps)) piece
  piece_here offset skip le e lt is = record {
    after = encodings after;
    parts =
        cc (
          split_encodings,
          past offset (encodings before) (spelling_of_pair p ++ encodings after) le,
          drop-append-le skip (spelling_of_pair p) (encodings after) (omega arith),
        );
    some = omega (arith, ap length is, length-drop skip (spelling_of_pair p));
  }

  -- so is a piece of the encodings of the pairs after the pair
  pub piece_after : (offset rest : ℕ) {piece : List ℕ} → length (encodings before) + length (spelling_of_pair p) ≤ offset
      → rest ≡ offset - length (encodings before) - length (spelling_of_pair p) → IsPiece (drop rest (encodings after)) piece
      → IsPiece (drop offset (encodings ps)) piece
  piece_after offset rest le e is =
      let parts : drop offset (encodings ps) ≡ drop rest (encodings after) =
      cc (
        split_encodings,
        past offset (encodings before) (spelling_of_pair p ++ encodings after) (omega arith),
        past (offset - length (encodings before)) (spelling_of_pair p) (encodings after) (omega arith),
      ) in
      rw parts is

-- ---- copying a part

-- The first `done` bytes of `out`, which has `size` bytes, are those of `bytes` from index `from` on. If `out` has room for more,
-- the next byte to copy is after the first five of `bytes`, the header.
pub record IsCopied (from done : ℕ) (out bytes : List ℕ) (size : ℕ) : Type 0 where
  pub length_is : length out ≡ size
  pub within : done ≤ length out
  pub same : take done out ≡ take done (drop from bytes)
  pub past_header : done < length out → 5 ≤ from + done

sum_taken : (n m : ℕ) (xs : List ℕ) → take (n + m) xs ≡ take n xs ++ take m (drop n xs)
sum_taken n m xs = cc (take-append-drop n (take (n + m) xs), take-take n (n + m) xs (omega arith), drop-take n m xs)

-- the bytes of the header were copied
pub copied_first : {from k done size : ℕ} {out : List ℕ} (header rest : List ℕ) {bytes piece : List ℕ}
    → bytes ≡ header ++ rest → length header ≡ 5 → k ≡ min from 5 → piece ≡ drop k header → length out ≡ size
    → done ≡ min (length piece) size → take done out ≡ take done piece → IsCopied from done out bytes size
copied_first {from} {k} {done} header rest {bytes} {piece} parts five at is len count same =
    record { length_is = len; within = omega arith; same = cc (go (cases_lt 5 from)); past_header = λ less. omega (arith, left) }
  where
    left : length piece ≡ length header - k
    left = cc (length-drop k header)

    go : (5 < from) ⊎ (from ≤ 5) → take done piece ≡ take done (drop from bytes)
    go (inl past) = let none : done ≡ 0 = omega (arith, left) in rw none
    go (inr le) =
        let here : k ≡ from = omega arith in
        cc (drop-append-le from header rest (omega arith), take-append-le done piece rest (omega arith))

-- the bytes of a piece were copied
pub copied_more : {from done next size : ℕ} {out changed : List ℕ} (header rest : List ℕ) {bytes piece : List ℕ}
    → IsCopied from done out bytes size → done < length out → bytes ≡ header ++ rest → length header ≡ 5
    → IsPiece (drop (from + done - 5) rest) piece → length changed ≡ length out
    → next ≡ done + min (length piece) (length out - done)
    → take next changed ≡ take done out ++ take (next - done) piece → IsCopied from next changed bytes size
copied_more {from} {done} {next} header rest {bytes} {piece} copied less parts five is len count same =
    let after : 5 ≤ from + done = copied.past_header less in
    let following : drop done (drop from bytes) ≡ piece ++ is.after =
    cc (drop-drop done from bytes, past (from + done) header rest (omega arith)) in
    let sum : done + (next - done) ≡ next = omega arith in
    record {
      length_is = omega arith;
      within = omega arith;
      same =
          cc (
            same,
            copied.same,
            sum,
            sum_taken done (next - done) (drop from bytes),
            following,
            take-append-le (next - done) piece is.after (omega arith),
          );
      past_header = λ left. omega arith;
    }

-- ---- an encoding determines its pair

pub equal_entries : {key key' : List ℕ} {value value' : Value} {bytes bytes' : List ℕ} {depth depth' : ℕ}
    → IsEntry key value bytes depth → IsEntry key' value' bytes' depth' → bytes ≡ bytes' → (key ≡ key') × (value ≡ value')
equal_entries {key} {key'} {value} {value'} one two e =
    let both : ◌≡◌ {A = List ℕ × List ℕ} (key, spelling_of value) (key', spelling_of value') =
    cc (text_again key (spelling_of value) (omega arith) one.text, text_again key' (spelling_of value') (omega arith) two.text) in
    let spelled : spelling_of value ≡ spelling_of value' = ap (λ (x : List ℕ × List ℕ). x.1) both in (
      ap (λ (x : List ℕ × List ℕ). x.0) both,
      prefix_free value value' [] one.well two.well (cc (append-nil (spelling_of value))),
    )

pub equal_tables : {ps qs : List Pair} → IsWell (v.Table ps) → IsWell (v.Table qs) → length ps ≡ length qs
    → encodings ps ≡ encodings qs → ps ≡ qs
equal_tables {ps} {qs} well well' len e =
    let same : v.Table ps ≡ v.Table qs =
    prefix_free (v.Table ps) (v.Table qs) [] well well'
    (cc (spelling-Table ps, spelling-Table qs, append-nil (spelling_of (v.Table ps)))) in
    cc (outs-Table ps, outs-Table qs)
