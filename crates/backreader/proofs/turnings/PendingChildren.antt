-- The trees that are expected after the bodies of trees.
use Rattle.backreader.proofs.Common
use Common.{◌≡◌, ℕ, zero, suc, ◌+◌, ◌≤◌, List, [], ◌∷◌, ◌++◌, Option, Some, None, All, refl, append_assoc, zero-add}
use Common.{arith, option_and_then, All-cons, All-nil, Direction, LeftToRight, RightToLeft, AllMatchArity, BodyForest, BodyTree}
use Common.{MatchesArity, branch, deepest, depth_of, more, none, prefix, prefix_all, tree_count}
use Rattle.std.proofs.lemmas.Option.{option_and_then_some}
use Rattle.backreader.specs.turning.Taking.{levels_before, pending_levels, pending_trees}

-- a level that is added `count` times after one such level may as well be added `count` times before it
levels_swap : (count level : ℕ) (levels : List ℕ)
    → levels_before count level (level ∷ levels) ≡ level ∷ levels_before count level levels
levels_swap zero level levels = refl
levels_swap (suc count) level levels = cc (levels_swap count level levels)

pub levels_add : (count others level : ℕ) (levels : List ℕ)
    → levels_before (count + others) level levels ≡ levels_before count level (levels_before others level levels)
levels_add zero others level levels = rw zero-add
levels_add (suc count) others level levels =
    let e : suc count + others ≡ suc (count + others) = omega arith in
    rw (e, levels_add count others level levels)

module _ (arity : List ℕ → Option ℕ) where
  -- the trees expected after some bodies and then others
  pub trees_on : (bodies others : List (List ℕ)) (n m : ℕ) → pending_trees arity n bodies ≡ Some m
      → pending_trees arity n (bodies ++ others) ≡ pending_trees arity m others
  trees_on [] others n m e = cc
  trees_on (body ∷ bodies) others zero m e = cc
  trees_on (body ∷ bodies) others (suc n) m e =
      option_and_then_some (λ c. pending_trees arity (c + n) bodies) (arity body) m e
      (λ c is left. rw is (trees_on bodies others (c + n) m left))

  -- too deep bodies are too deep with others after them
  pub levels_on : (bodies others : List (List ℕ)) (ls : List ℕ) → pending_levels arity ls bodies ≡ None
      → pending_levels arity ls (bodies ++ others) ≡ None
  levels_on [] others ls e = cc
  levels_on (body ∷ bodies) others [] e = refl
  levels_on (body ∷ bodies) others (zero ∷ ls) e = refl
  levels_on (body ∷ bodies) others (suc l ∷ ls) e = by_rank (arity body) (levels_on bodies others) e
    where
      by_rank : (found : Option ℕ)
          → ((ms : List ℕ) → pending_levels arity ms bodies ≡ None → pending_levels arity ms (bodies ++ others) ≡ None)
          → option_and_then (λ c. pending_levels arity (levels_before c l ls) bodies) found ≡ None
          → option_and_then (λ c. pending_levels arity (levels_before c l ls) (bodies ++ others)) found ≡ None
      by_rank None on e = refl
      by_rank (Some c) on e = on (levels_before c l ls) e

  -- after the bodies of a tree one tree less is expected
  mutual
    pub past_tree : (d : Direction) (t : BodyTree) (n : ℕ) (rest : List (List ℕ)) → MatchesArity arity t
        → pending_trees arity (suc n) (prefix d t ++ rest) ≡ pending_trees arity n rest
    past_tree d (branch body ts) n rest r = rw r.0 (past_trees d ts n rest r.1)

    pub past_trees : (d : Direction) (ts : BodyForest) (n : ℕ) (rest : List (List ℕ)) → AllMatchArity arity ts
        → pending_trees arity (tree_count ts + n) (prefix_all d ts ++ rest) ≡ pending_trees arity n rest
    past_trees d none n rest r = rw zero-add
    past_trees LeftToRight (more t ts) n rest r =
        let e : suc (tree_count ts) + n ≡ suc (tree_count ts + n) = omega arith in
        cc (
          append_assoc (prefix LeftToRight t) (prefix_all LeftToRight ts) rest,
          past_tree LeftToRight t (tree_count ts + n) (prefix_all LeftToRight ts ++ rest) r.0,
          past_trees LeftToRight ts n rest r.1,
        )
    past_trees RightToLeft (more t ts) n rest r =
        let e : suc (tree_count ts) + n ≡ tree_count ts + suc n = omega arith in
        cc (
          append_assoc (prefix_all RightToLeft ts) (prefix RightToLeft t) rest,
          past_trees RightToLeft ts (suc n) (prefix RightToLeft t ++ rest) r.1,
          past_tree RightToLeft t n rest r.0,
        )

  -- the same with levels, if the tree is not too deep
  mutual
    pub below_tree : (d : Direction) (t : BodyTree) (l : ℕ) (ls : List ℕ) (rest : List (List ℕ)) → MatchesArity arity t
        → depth_of t ≤ l → pending_levels arity (l ∷ ls) (prefix d t ++ rest) ≡ pending_levels arity ls rest
    below_tree d (branch body ts) zero ls rest r deep = absurd (omega arith)
    below_tree d (branch body ts) (suc l) ls rest r deep = rw r.0 (below_trees d ts l ls rest r.1 (omega arith))

    pub below_trees : (d : Direction) (ts : BodyForest) (l : ℕ) (ls : List ℕ) (rest : List (List ℕ)) → AllMatchArity arity ts
        → deepest ts ≤ l → pending_levels arity (levels_before (tree_count ts) l ls) (prefix_all d ts ++ rest)
        ≡ pending_levels arity ls rest
    below_trees d none l ls rest r deep = refl
    below_trees LeftToRight (more t ts) l ls rest r deep =
        cc (
          append_assoc (prefix LeftToRight t) (prefix_all LeftToRight ts) rest,
          below_tree LeftToRight t l (levels_before (tree_count ts) l ls) (prefix_all LeftToRight ts ++ rest) r.0 (omega arith),
          below_trees LeftToRight ts l ls rest r.1 (omega arith),
        )
    below_trees RightToLeft (more t ts) l ls rest r deep =
        cc (
          levels_swap (tree_count ts) l ls,
          append_assoc (prefix_all RightToLeft ts) (prefix RightToLeft t) rest,
          below_trees RightToLeft ts l (l ∷ ls) (prefix RightToLeft t ++ rest) r.1 (omega arith),
          below_tree RightToLeft t l ls rest r.0 (omega arith),
        )

  -- if the number of expected trees is known, each body has an arity
  pub all_arities : (bodies : List (List ℕ)) (n m : ℕ) → pending_trees arity n bodies ≡ Some m
      → All (λ body. (count : ℕ) × (arity body ≡ Some count)) bodies
  all_arities [] n m e = All-nil (λ body. (count : ℕ) × (arity body ≡ Some count))
  all_arities (body ∷ bodies) zero m e = absurd cc
  all_arities (body ∷ bodies) (suc n) m e =
      option_and_then_some (λ c. pending_trees arity (c + n) bodies) (arity body) m e
      (λ c is left.
      All-cons (λ b. (count : ℕ) × (arity b ≡ Some count)) body bodies (c, is) (all_arities bodies (c + n) m left))
