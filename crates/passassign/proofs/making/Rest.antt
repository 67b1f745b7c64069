-- The attributes left open by two passes that assign nothing are stuck, and the strikes of these passes are a certificate.
use Rattle.passassign.proofs.Common
use Common.{ℕ, zero, suc, ◌≡◌, ◌≤◌, ◌↔◌, List, [], None, arith, Has, Differ, Grammar, Direction, LeftToRight, RightToLeft}
use Common.{direction_of, other, Strike, Stuck, Attributes, Members, StrikesAll, IsCertificate, stuck_of, Partial, IsLegalPartial}
use Common.{IsStuck, IsOpen, AreIdle, list_for}
use Rattle.passassign.proofs.slots.Options.{none_of}
use Rattle.passassign.proofs.strikes.Exactly.{are_good_more, exactly_same, strikes_all}
use Rattle.passassign.proofs.making.Struck.{AtLeast, struck_later}

-- candidates that are struck in both directions have no pass in a legal partial assignment
module _ (g : Grammar) (candidate : Attributes) (lists : Direction → List Strike)
    (all : (d : Direction) → StrikesAll g d candidate (lists d)) where
  climb : (n : Partial) → IsLegalPartial g n → (k : ℕ) → AtLeast n k candidate
  climb n legal zero s a p i e = omega arith
  climb n legal (suc k) s a p i e =
      let strikes = all (direction_of k) in
      struck_later legal k candidate (climb n legal k) (lists (direction_of k)) strikes.good s a p (strikes.all s a i) e

  all_stuck : (s a : ℕ) → candidate s a → IsStuck g s a
  all_stuck s a i n legal = none_of (n s a) (λ p e. let h : suc p ≤ p = climb n legal (suc p) s a p i e in omega arith)

-- the list of a certificate for a direction strikes all members
pub all_for : (g : Grammar) (c : Stuck) → IsCertificate g c → (d : Direction) → StrikesAll g d (Members c.set) (list_for c d)
all_for g c is RightToLeft = is.odd
all_for g c is LeftToRight = is.even

pub members_stuck : (g : Grammar) (c : Stuck) → IsCertificate g c → (s a : ℕ) → Members c.set s a → IsStuck g s a
members_stuck g c is = all_stuck g (Members c.set) (list_for c) (all_for g c is)

-- both passes strike all attributes without a pass before them
module _ (g : Grammar) (k : ℕ) (m : Partial) (first second : List Strike) (h : AreIdle g k m first second) where
  between_none : (s a : ℕ) → m s a ≡ None → h.between s a ≡ None
  between_none s a e = none_of (h.between s a) (λ p f. cc (h.other.kept s a p f, h.idle s a e))

  first_all : StrikesAll g (direction_of k) (IsOpen g m) first
  first_all = strikes_all g (direction_of k) (IsOpen g m) first h.one.good (λ s a i. h.one.left s a i (between_none s a i.1))

  second_all : StrikesAll g (other (direction_of k)) (IsOpen g m) second
  second_all =
      strikes_all g (other (direction_of k)) (IsOpen g m) second
      (are_good_more g (other (direction_of k)) {some = IsOpen g h.between}
      (λ s a i. (i.0, none_of (m s a) (λ p f. cc (h.one.kept s a p f, i.1)))) [] second h.other.good)
      (λ s a i. h.other.left s a (i.0, between_none s a i.1) (h.idle s a i.1))

  -- the lists of the certificate of the two passes
  both : (set : List (ℕ × ℕ)) (d : Direction) → StrikesAll g d (IsOpen g m) first → StrikesAll g (other d) (IsOpen g m) second
      → (e : Direction) → StrikesAll g e (IsOpen g m) (list_for (stuck_of d set first second) e)
  both set RightToLeft x y RightToLeft = x
  both set RightToLeft x y LeftToRight = y
  both set LeftToRight x y RightToLeft = y
  both set LeftToRight x y LeftToRight = x

  pub rest_stuck : (s a : ℕ) → IsOpen g m s a → IsStuck g s a
  rest_stuck =
      let d = direction_of k in
      all_stuck g (IsOpen g m) (list_for (stuck_of d [] first second)) (both [] d first_all second_all)

  pub rest_certified : (set : List (ℕ × ℕ)) → Differ set → ((x : ℕ × ℕ) × Has set x)
      → ((s a : ℕ) → Members set s a ↔ IsOpen g m s a) → IsCertificate g (stuck_of (direction_of k) set first second)
  rest_certified set single some is = go (direction_of k) (both set (direction_of k) first_all second_all)
    where
      of_members : {d : Direction} {xs : List Strike} → StrikesAll g d (IsOpen g m) xs → StrikesAll g d (Members set) xs
      of_members x = exactly_same x (λ s a. (is s a).1) (λ s a. (is s a).1) (λ s a. (is s a).0)

      go : (d : Direction) → ((e : Direction) → StrikesAll g e (IsOpen g m) (list_for (stuck_of d set first second) e))
          → IsCertificate g (stuck_of d set first second)
      go RightToLeft all =
          record { some = some; single = single; odd = of_members (all RightToLeft); even = of_members (all LeftToRight) }
      go LeftToRight all =
          record { some = some; single = single; odd = of_members (all RightToLeft); even = of_members (all LeftToRight) }
