-- Texts within the limits, and their encodings.
use Rattle.std.proofs.Common.{◌≡◌, ◌≤◌, ◌<◌, ◌+◌, ℕ, zero, suc, List, [], ◌∷◌, ◌++◌, true, length, slice_index}
use Rattle.std.proofs.Common.{slice_index_or, refl, sym, ◌∙◌, arith}
use Rattle.std.specs.Int.{w32, to_be_bytes}
use Rattle.std.specs.Str.{is_utf8}
use Rattle.std.proofs.lemmas.Str.{IsUtf8-append, IsUtf8-from_is_utf8, is_utf8-from_IsUtf8}
use Rattle.ag_carried.specs.SharedText.{IsTextWithinLimits}
use Rattle.ag_value.specs.Measure.{max_weight, weight_of}
use Rattle.ag_value.specs.Spelling.{spelling_of}
use Rattle.ag_value.specs.Well.{IsWell}
use Rattle.ag_value.specs.declared.value.Value.TheVariants as v
use Rattle.ag_value.proofs.Lengths.{length-spelling}
use Rattle.ag_value.proofs.Layers.{depth-Text, fault-Text, item-Text, spelling-Text, weight-Text}

-- a well text is within the limits
pub short_text : (bytes : List ℕ) → IsWell (v.Text bytes) → IsTextWithinLimits bytes
short_text bytes well = record {
  utf8 = sym (item-Text bytes) ∙ (sym (rw (fault-Text bytes) refl) ∙ well.formed);
  short = let light : weight_of (v.Text bytes) ≤ max_weight = well.light in omega (arith, light, weight-Text bytes);
}

-- a text within the limits is well
pub well_text : (bytes : List ℕ) → IsTextWithinLimits bytes → IsWell (v.Text bytes)
well_text bytes h = record {
  formed = rw (fault-Text bytes) (item-Text bytes ∙ h.utf8);
  shallow = let d = depth-Text bytes in omega (arith, d);
  light = let w = weight-Text bytes in let s : 5 + length bytes ≤ max_weight = h.short in omega (arith, w, s);
}

-- a text of at most 256 bytes is well
pub well_short_text : (bytes : List ℕ) → is_utf8 bytes ≡ true → length bytes ≤ 256 → IsWell (v.Text bytes)
well_short_text bytes utf8 short = well_text bytes (record {
  utf8 = utf8;
  short = omega (arith, short);
})

-- two texts joined are UTF-8, if each one is
pub joined_utf8 : (a b : List ℕ) → is_utf8 a ≡ true → is_utf8 b ≡ true → is_utf8 (a ++ b) ≡ true
joined_utf8 a b f g = is_utf8-from_IsUtf8 (a ++ b) (IsUtf8-append a b (IsUtf8-from_is_utf8 a f) (IsUtf8-from_is_utf8 b g))

-- the encoding of a text begins with its kind and the four bytes of its length
pub header_is : (text len : List ℕ) → len ≡ to_be_bytes w32 (length text)
    → spelling_of (v.Text text)
    ≡ 1 ∷ slice_index_or len 0 0 ∷ slice_index_or len 1 0 ∷ slice_index_or len 2 0 ∷ slice_index_or len 3 0 ∷ text
header_is text len e = spelling-Text text ∙ rw e refl

-- the encoding of a text has five bytes more than the text
pub length-encoding : (text : List ℕ) → length (spelling_of (v.Text text)) ≡ 5 + length text
length-encoding text = length-spelling (v.Text text) ∙ weight-Text text

-- each element of two joined lists is below 256, if each element of either is
pub bytes_append : (a b : List ℕ) → ((i : ℕ) → slice_index a i < 256) → ((i : ℕ) → slice_index b i < 256)
    → (i : ℕ) → slice_index (a ++ b) i < 256
bytes_append [] b f g i = g i
bytes_append (x ∷ a) b f g zero = f zero
bytes_append (x ∷ a) b f g (suc i) = bytes_append a b (λ j. f (suc j)) g i
