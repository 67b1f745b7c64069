-- The numbers that follow are the least set that has the seeds and is closed under the clauses.
use Rattle.std.proofs.Common.{ℕ, ◌≡◌, List, [], ◌∷◌, All, Contains, Some, slice_get, refl, subst}
use Rattle.std.proofs.lemmas.List.Elements.{All-nil, All-cons, All-head, All-tail}
use Rattle.closure.specs.declared.clause.Clause.{Clause}
use Rattle.closure.specs.Following.{Follows, FollowAll, seed, by_clause, nothing, one_more}

-- Induction: let the seeds have a property, and the head of each clause whose body has it. Then all numbers that
-- follow have it.
mutual
  pub follows_in : (cs : List Clause) (seeds : List ℕ) (P : ℕ → Type 0) → ((t : ℕ) → Contains seeds t → P t)
      → ((p : ℕ) (c : Clause) → slice_get cs p ≡ Some c → All P c.body → P c.head) → (s : ℕ) → Follows cs seeds s → P s
  follows_in cs seeds P start closed s (seed h) = start s h
  follows_in cs seeds P start closed s (by_clause p c e l all) =
      subst P l (closed p c e (all_in cs seeds P start closed c.body all))

  all_in : (cs : List Clause) (seeds : List ℕ) (P : ℕ → Type 0) → ((t : ℕ) → Contains seeds t → P t)
      → ((p : ℕ) (c : Clause) → slice_get cs p ≡ Some c → All P c.body → P c.head) → (ns : List ℕ) → FollowAll cs seeds ns
      → All P ns
  all_in cs seeds P start closed [] nothing = All-nil P
  all_in cs seeds P start closed (n ∷ ns) (one_more h k) =
      All-cons P n ns (follows_in cs seeds P start closed n h) (all_in cs seeds P start closed ns k)

-- the numbers of a list follow (`FollowAll`) if each of them follows
pub follow_all : (cs : List Clause) (seeds ns : List ℕ) → All (Follows cs seeds) ns → FollowAll cs seeds ns
follow_all cs seeds [] all = nothing
follow_all cs seeds (n ∷ ns) all =
    one_more (All-head (Follows cs seeds) n ns all) (follow_all cs seeds ns (All-tail (Follows cs seeds) n ns all))

-- the numbers that follow are closed under the clauses
pub head_follows : (cs : List Clause) (seeds : List ℕ) (p : ℕ) (c : Clause) → slice_get cs p ≡ Some c
    → All (Follows cs seeds) c.body → Follows cs seeds c.head
head_follows cs seeds p c e all = by_clause p c e refl (follow_all cs seeds c.body all)
