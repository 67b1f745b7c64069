-- What the result of reversing a content means if the content is the file of a given tree: it is about this tree.
use Rattle.backreader.proofs.Common
use Common.{◌≡◌, ℕ, Bool, true, List, [], ◌∷◌, Option, Result, Ok, Err}
use Common.{Direction, IsFileOf, Reverses, TurnFault, ReadsBack, next_before, is_tree_file, version_two_usable, BodyTree}
use Common.{postfix, frame, version_two, flat_map}
use Common.turn_fault
use Common.frame_fault
use Rattle.backreader.specs.turning.Turning.{IsReversed, ReversesTree}
use Rattle.treefile.proofs.framing.Files.{begins}
use Rattle.backreader.proofs.turnings.Whole.{parts_of, same_tree}

module _ (arity : List ℕ → Option ℕ) (pass : ℕ) (content : List ℕ) (honest : Bool) (turned : List ℕ) (direction : Direction)
    (tree : BodyTree) (is : IsFileOf arity direction tree content) where
  is_file : is_tree_file version_two content ≡ true
  is_file = rw is.occurs (begins version_two is.pass (flat_map frame (postfix direction tree)) version_two_usable)

  no_damage : (at : ℕ) (rest : List (List ℕ)) → ReadsBack version_two content at rest
      → next_before version_two content at ≡ Err (frame_fault.Damaged at) → ⊥
  no_damage at [] none damage = cc
  no_damage at (body ∷ rest) some damage = cc

  pub tree_exact : (result : Result ℕ TurnFault) → Reverses arity pass content honest turned result
      → ReversesTree pass direction tree honest turned result
  tree_exact (Ok count) so =
      let it : IsReversed arity pass content honest turned count direction = so direction in
      let same : tree ≡ it.tree = same_tree is it.from in
      (rw same it.within, rw same it.count_is, rw same it.to)
  tree_exact (Err turn_fault.NotATreeFile) so = cc is_file
  tree_exact (Err (turn_fault.Damaged at)) so =
      let parts = parts_of so.read is in
      no_damage at parts.0 parts.2 so.damage
  tree_exact (Err (turn_fault.NotATree at)) so = so.none direction tree is
  tree_exact (Err turn_fault.TooLarge) so = so.none direction tree is
  tree_exact (Err turn_fault.Device) so = tt
  tree_exact (Err turn_fault.NoMemory) so = tt
