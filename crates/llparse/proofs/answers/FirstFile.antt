-- The bytes that a parser writes of a tree are its file of pass 0.
use Rattle.llparse.proofs.Common
use Common.{◌≡◌, ℕ, List, ◌++◌, refl, append-nil, Grammar, Tree, Forest, IsTreeOf, leaf, node, none, more, IsFirstFile}
use Common.{first_bodies, first_bodies_all, frame, header, version_two, is_first_file, leaf_frame, tree_frames, forest_frames}
use Rattle.std.specs.List.{flat_map}
use Rattle.std.proofs.lemmas.Grind.{flat_map-append}
use Rattle.ag_grammar.specs.declared.direction.Direction.TheVariants.{LeftToRight}
use Rattle.treefile.specs.records.Orders.{postfix, postfix_all}

mutual
  frames : (t : Tree) → flat_map frame (postfix LeftToRight (first_bodies version_two t)) ≡ tree_frames t
  frames (leaf c x) = append-nil (leaf_frame c x)
  frames (node p ts) = rw (flat_map-append, frames_all ts, append-nil)

  frames_all : (ts : Forest) → flat_map frame (postfix_all LeftToRight (first_bodies_all version_two ts)) ≡ forest_frames ts
  frames_all none = refl
  frames_all (more t ts) = rw (flat_map-append, frames t, frames_all ts)

-- the header, followed by the frames of a tree, is the tree's file of pass 0
pub first_file : (g : Grammar) (t : Tree) (content : List ℕ) → IsTreeOf g t → content ≡ header version_two 0 ++ tree_frames t
    → IsFirstFile version_two g t content
first_file g t content fits is =
    is_first_file version_two g t content fits (cc (frames t))
