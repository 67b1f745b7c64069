-- The two orders of a tree's bodies: their lengths, and that a list begins or ends with the bodies of at most one tree.
use Rattle.treefile.proofs.Common
use Common.{◌≡◌, ℕ, suc, ◌+◌, List, [], ◌∷◌, ◌++◌, length, Option, reverse, refl, ap, append_assoc, length-append, arith}
use Common.{length-reverse, reverse-append, reverse-reverse, Direction, LeftToRight, RightToLeft, other, joined, postfix}
use Common.{postfix_all, prefix, prefix_all}
use Rattle.treefile.specs.records.Orders.{AllMatchArity, BodyForest, BodyTree, MatchesArity, branch, more, node_count}
use Rattle.treefile.specs.records.Orders.{node_counts, none, tree_count}

-- a reversal of lists joined in one direction joins their reversals in the other
turn_joined : (d : Direction) (xs ys : List (List ℕ)) → reverse (joined d xs ys) ≡ joined (other d) (reverse xs) (reverse ys)
turn_joined LeftToRight xs ys = reverse-append xs ys
turn_joined RightToLeft xs ys = reverse-append ys xs

mutual
  pub turned : (d : Direction) (t : BodyTree) → reverse (postfix d t) ≡ prefix (other d) t
  turned d (branch body ts) = cc (reverse-append (postfix_all d ts) (body ∷ []), turned_all d ts)

  turned_all : (d : Direction) (ts : BodyForest) → reverse (postfix_all d ts) ≡ prefix_all (other d) ts
  turned_all d none = refl
  turned_all d (more t ts) = cc (turn_joined d (postfix d t) (postfix_all d ts), turned d t, turned_all d ts)

length-joined : (d : Direction) (xs ys : List (List ℕ)) → length (joined d xs ys) ≡ length xs + length ys
length-joined LeftToRight xs ys = length-append xs ys
length-joined RightToLeft xs ys = omega (arith, length-append ys xs)

-- a list has a body for each node
mutual
  pub length-prefix : (d : Direction) (t : BodyTree) → length (prefix d t) ≡ node_count t
  length-prefix d (branch body ts) = ap suc (length-prefix_all d ts)

  pub length-prefix_all : (d : Direction) (ts : BodyForest) → length (prefix_all d ts) ≡ node_counts ts
  length-prefix_all d none = refl
  length-prefix_all d (more t ts) =
      omega (arith, length-joined d (prefix d t) (prefix_all d ts), length-prefix d t, length-prefix_all d ts)

pub length-postfix : (d : Direction) (t : BodyTree) → length (postfix d t) ≡ node_count t
length-postfix d t = cc (length-reverse (postfix d t), turned d t, length-prefix (other d) t)

pub length-postfix_all : (d : Direction) (ts : BodyForest) → length (postfix_all d ts) ≡ node_counts ts
length-postfix_all d ts = cc (length-reverse (postfix_all d ts), turned_all d ts, length-prefix_all (other d) ts)

module _ (arity : List ℕ → Option ℕ) where
  mutual
    pub one_tree : (d : Direction) (t u : BodyTree) (xs ys : List (List ℕ)) → MatchesArity arity t → MatchesArity arity u
        → prefix d t ++ xs ≡ prefix d u ++ ys → (t ≡ u) × (xs ≡ ys)
    one_tree d (branch a ts) (branch b us) xs ys f g e =
        let same : tree_count ts ≡ tree_count us = cc in
        let rest = one_forest d ts us xs ys same f.1 g.1 (cc) in
        (cc, rest.1)

    one_forest : (d : Direction) (ts us : BodyForest) (xs ys : List (List ℕ)) → tree_count ts ≡ tree_count us
        → AllMatchArity arity ts → AllMatchArity arity us → prefix_all d ts ++ xs ≡ prefix_all d us ++ ys → (ts ≡ us) × (xs ≡ ys)
    one_forest d none none xs ys s f g e = (refl, e)
    one_forest LeftToRight (more t ts) (more u us) xs ys s f g e =
        let first =
        one_tree LeftToRight t u (prefix_all LeftToRight ts ++ xs) (prefix_all LeftToRight us ++ ys) f.0 g.0
        (simp append_assoc at e) in
        let rest = one_forest LeftToRight ts us xs ys (cc) f.1 g.1 first.1 in
        (cc, rest.1)
    one_forest RightToLeft (more t ts) (more u us) xs ys s f g e =
        let rest =
        one_forest RightToLeft ts us (prefix RightToLeft t ++ xs) (prefix RightToLeft u ++ ys) (cc) f.1 g.1
        (simp append_assoc at e) in
        let first = one_tree RightToLeft t u xs ys f.0 g.0 rest.1 in
        (cc, first.1)
    one_forest d ts us xs ys s f g e = absurd cc

  -- a list ends with the postfix list of at most one tree
  pub one_tree_at_end : (d : Direction) (t u : BodyTree) (xs ys : List (List ℕ)) → MatchesArity arity t → MatchesArity arity u
      → xs ++ postfix d t ≡ ys ++ postfix d u → (t ≡ u) × (xs ≡ ys)
  one_tree_at_end d t u xs ys f g e =
      let both =
      one_tree (other d) t u (reverse xs) (reverse ys) f g
      (cc (reverse-append xs (postfix d t), turned d t, reverse-append ys (postfix d u), turned d u)) in
      (both.0, cc (reverse-reverse xs, reverse-reverse ys))
