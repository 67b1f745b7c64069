-- The encoding of a list.
use Rattle.std.proofs.Common.{◌≡◌, ℕ, List, ◌∷◌, length, map, slice_index_or, refl, ◌∙◌}
use Rattle.std.specs.Int.{w32, to_be_bytes}
use Rattle.ag_value.specs.Spelling.{joined, spelling_of}
use Rattle.ag_value.specs.declared.value.Value.{Value}
use Rattle.ag_value.specs.declared.value.Value.TheVariants as v
use Rattle.ag_value.proofs.Layers.{spelling-List}

-- the encoding of a list begins with its kind and the four bytes of the number of items
pub header_is : (items : List Value) (len : List ℕ) → len ≡ to_be_bytes w32 (length items)
    → spelling_of (v.List items)
    ≡ 2 ∷ slice_index_or len 0 0 ∷ slice_index_or len 1 0 ∷ slice_index_or len 2 0 ∷ slice_index_or len 3 0
    ∷ joined (map spelling_of items)
header_is items len e = spelling-List items ∙ rw e refl
