-- Paths of open nodes.
use Rattle.passrun.proofs.Common.{ℕ, ◌≡◌, List, [], ◌∷◌, ◌++◌, ap, refl, reverse, ◌∙◌, OpenNode}
use Rattle.std.proofs.lemmas.Grind.{reverse_onto}
use Rattle.passrun.specs.passing.OpenNodes.{IsPath, end_of}

pub longer : (p : ℕ) (xs : List OpenNode) (x : OpenNode) → IsPath p xs → x.production ≡ end_of p xs → IsPath p (xs ++ x ∷ [])
longer p [] x path is = (is, tt)
longer p (y ∷ ys) x path is = (path.0, longer y.child ys x path.1 is)

pub prefix_is_path : (p : ℕ) (xs ys : List OpenNode) → IsPath p (xs ++ ys) → IsPath p xs
prefix_is_path p [] ys path = tt
prefix_is_path p (x ∷ xs) ys path = (path.0, prefix_is_path x.child xs ys path.1)

-- A path whose nodes are x and xs, the innermost first, ends at the child that x entered.
pub end_is : (p : ℕ) (x : OpenNode) (xs : List OpenNode) → end_of p (reverse (x ∷ xs)) ≡ x.child
end_is p x xs = ap (end_of p) (reverse_onto xs x []) ∙ longer_end p (reverse xs)
  where
    longer_end : (p : ℕ) (xs : List OpenNode) → end_of p (xs ++ x ∷ []) ≡ x.child
    longer_end p [] = refl
    longer_end p (y ∷ ys) = longer_end y.child ys
