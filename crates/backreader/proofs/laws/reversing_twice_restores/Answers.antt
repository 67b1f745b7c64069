use Rattle.backreader.proofs.Common
use Common.{◌≡◌, ℕ, List, ◌∷◌, ◌++◌, [], length, Option, All, refl, All-append, Direction, LeftToRight, RightToLeft, other}
use Common.{IsBody, BodyForest, BodyTree, MatchesArity, branch, joined, more, none, postfix, postfix_all}
use Common.{version_two, one_tree_at_end, IsFileOf}
use Rattle.std.proofs.lemmas.List.Elements.{All-drop, All-take}
use Rattle.std.proofs.Math.Seq.{drop-append_seam, take-append_seam}
use Rattle.backreader.proofs.turnings.Mirror.{mirror, other-other, postfix-mirror, arities-mirror}
use Rattle.backreader.proofs.turnings.Whole.{same_tree}
use Rattle.backreader.proofs.laws.reversing_twice_restores.Goals as goal

-- If the postfix lists of t and u, each in some direction, are equal, so are their lists in the opposite directions. For t and u
-- are one tree if both directions are equal, and mirror images of each other otherwise.
twice : (arity : List ℕ → Option ℕ) (d e : Direction) (t u : BodyTree) → MatchesArity arity t → MatchesArity arity u
    → postfix (other d) t ≡ postfix e u → postfix (other e) u ≡ postfix d t
twice arity LeftToRight RightToLeft t u r s same = cc (one_tree_at_end arity RightToLeft t u [] [] r s same).0
twice arity RightToLeft LeftToRight t u r s same = cc (one_tree_at_end arity LeftToRight t u [] [] r s same).0
twice arity LeftToRight LeftToRight t u r s same =
    let mirrored =
    one_tree_at_end arity LeftToRight (mirror t) u [] [] (arities-mirror arity t r) s (cc (postfix-mirror LeftToRight t)) in
    cc (mirrored.0, postfix-mirror RightToLeft t)
twice arity RightToLeft RightToLeft t u r s same =
    let mirrored =
    one_tree_at_end arity RightToLeft (mirror t) u [] [] (arities-mirror arity t r) s (cc (postfix-mirror RightToLeft t)) in
    cc (mirrored.0, postfix-mirror LeftToRight t)

pub returns-clause-bodies : goal.returns-clause-bodies
returns-clause-bodies c arity d e bodies turned again first second =
    cc (
      first.from,
      second.to,
      twice arity d e first.tree second.tree first.arities second.arities (cc (first.to, second.from)),
    )

-- if each body of a tree's list in one direction has a property, so has each body of its list in another direction
module _ (P : List ℕ → Type 0) where
  both_all : (xs ys : List (List ℕ)) → All P (xs ++ ys) → All P xs × All P ys
  both_all xs ys all =
      let first = rw take-append_seam at (All-take P (length xs) (xs ++ ys) all) in
      (first, rw drop-append_seam at (All-drop P (length xs) (xs ++ ys) all))

  joined_all : (d : Direction) (xs ys : List (List ℕ)) → All P xs → All P ys → All P (joined d xs ys)
  joined_all LeftToRight xs ys first second = All-append P xs ys first second
  joined_all RightToLeft xs ys first second = All-append P ys xs second first

  parts_all : (d : Direction) (xs ys : List (List ℕ)) → All P (joined d xs ys) → All P xs × All P ys
  parts_all LeftToRight xs ys all = both_all xs ys all
  parts_all RightToLeft xs ys all =
      let both = both_all ys xs all in
      (both.1, both.0)

  mutual
    other_all : (d e : Direction) (t : BodyTree) → All P (postfix d t) → All P (postfix e t)
    other_all d e (branch body ts) all =
        let both = both_all (postfix_all d ts) (body ∷ []) all in
        All-append P (postfix_all e ts) (body ∷ []) (others_all d e ts both.0) both.1

    others_all : (d e : Direction) (ts : BodyForest) → All P (postfix_all d ts) → All P (postfix_all e ts)
    others_all d e none all = all
    others_all d e (more t ts) all =
        let both = parts_all d (postfix d t) (postfix_all d ts) all in
        joined_all e (postfix e t) (postfix_all e ts) (other_all d e t both.0) (others_all d e ts both.1)

pub returns-clause-files : goal.returns-clause-files
returns-clause-files c arity pass d content turned again count another first second =
    let is : IsFileOf arity (other d) first.tree turned = record {
      arities = first.from.arities;
      bodies = other_all (IsBody version_two) d (other d) first.tree first.from.bodies;
      pass = pass;
      occurs = first.to refl;
    } in
    let same = same_tree second.from is in
    cc (first.from.occurs, second.to refl, same, other-other d)
