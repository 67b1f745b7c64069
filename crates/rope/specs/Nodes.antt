-- The nodes of a rope. All of this is this project's.
use Rattle.std.specs.Prelude.{slice_index, ◌≡◌, ℕ, ◌+◌, ◌<◌, List, ◌++◌, length}
use Rattle.rope.specs.declared.rope.RopeNode.{RopeNode}
use Rattle.rope.specs.declared.rope.RopeNode.TheVariants.{Joined, Piece}

-- the bytes of a piece, or those of two ropes one after the other (here a `Rope` is the list of its bytes)
abbrev pub bytes_of : RopeNode → List ℕ
bytes_of (Piece piece) = piece.value.items
bytes_of (Joined pair) = pair.value.left ++ pair.value.right

-- each number of a list is below 256 (`slice_index` is 0 beyond the end of the list)
abbrev pub AreBytes : List ℕ → Type 0
AreBytes bytes = (i : ℕ) → slice_index bytes i < 256

-- each number is below 256; if the node has two ropes, neither is empty, and the stored length is the sum of their lengths
abbrev pub IsNode : RopeNode → Type 0
IsNode (Piece piece) = AreBytes piece.value.items
IsNode (Joined pair) =
    (pair.value.len ≡ length pair.value.left + length pair.value.right) × (0 < length pair.value.left)
    × (0 < length pair.value.right) × AreBytes (pair.value.left ++ pair.value.right)
