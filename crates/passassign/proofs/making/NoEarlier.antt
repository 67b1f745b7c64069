-- The meaning of the strikes of an assignment: no legal assignment gives any attribute an earlier pass.
use Rattle.passassign.proofs.Common
use Common.{ℕ, zero, suc, ◌≡◌, ◌<◌, ◌≤◌, ◌↔◌, List, [], Some, get_or, length, arith, add-one, slice_get-get_or, Grammar, Passes}
use Common.{IsLegal, direction_of, Strike, Stuck, Members, IsCertificate, IsChainOf, Partial, partial_of, IsLegalPartial, IsLeast}
use Common.{HasPassFrom, HasPassAfter, AreStrikesAt, AreStrikesOf, list_for, strikes_of, passes_of}
use Rattle.passassign.proofs.making.Fewest.{given_at_most}
use Rattle.passassign.proofs.making.Rest.{all_for}
use Rattle.passassign.proofs.making.Struck.{AtLeast, struck_later}
use Rattle.passassign.proofs.making.Whole.{partial_legal}
use Rattle.passassign.proofs.strikes.Chained.{chain_later, good_chains}
use Rattle.passassign.proofs.strikes.Exactly.{exactly_same}

pub later_from : (m : Passes) (k s a : ℕ) → HasPassAfter m k s a → HasPassFrom m k s a
later_from m k s a i = let lt = i.2 in (i.0, i.1, omega arith)

module _ {g : Grammar} {rows : List (List ℕ)} {lists : List (List Strike)} (are : AreStrikesOf g rows lists) where
  -- the strikes of a pass
  at_pass : (k : ℕ) → suc k ≤ length lists → AreStrikesAt g (passes_of rows) (suc k) (get_or lists k [])
  at_pass k le = rw add-one at (are.each k (get_or lists k []) (slice_get-get_or lists k [] (omega arith)))

  -- by induction on k: an attribute with no pass up to k in the assignment has none up to k in a legal partial assignment n
  climb : {n : Partial} → IsLegalPartial g n → (k : ℕ) → k ≤ length lists
      → AtLeast n (suc k) (HasPassFrom (passes_of rows) (suc k))
  climb legal zero le s a q i e = legal.positive s a q e
  climb legal (suc k) le s a q i e =
      let strikes = at_pass k le in
      struck_later legal (suc k) (HasPassFrom (passes_of rows) (suc k))
      (λ u b p h. climb legal k (omega arith) u b p h) (get_or lists k []) strikes.good s a q (strikes.all s a i) e

  not_earlier : {n : Partial} → IsLegalPartial g n → (s a p q : ℕ) → partial_of (passes_of rows) s a ≡ Some p → n s a ≡ Some q
      → p ≤ q
  not_earlier legal s a zero q e f = omega arith
  not_earlier legal s a (suc p) q e f =
      let most = given_at_most rows (length lists) s a (suc p) are.count.most e in
      climb legal p (omega arith) s a q (suc p, e, omega arith) f

  least_by_strikes : IsLegal g (passes_of rows) → IsLeast g (passes_of rows)
  least_by_strikes legal = record { legal = legal; least = λ other h. not_earlier (partial_legal g other h) }

pub none_earlier : (g : Grammar) (rows : List (List ℕ)) (lists : List (List Strike)) (other : Passes) → AreStrikesOf g rows lists
    → IsLegal g other → (s a p q : ℕ) → partial_of (passes_of rows) s a ≡ Some p → partial_of other s a ≡ Some q → p ≤ q
none_earlier g rows lists other are legal = not_earlier are (partial_legal g other legal)

pub strikes_least : (g : Grammar) (rows : List (List ℕ)) (lists : List (List Strike)) → IsLegal g (passes_of rows)
    → AreStrikesOf g rows lists → IsLeast g (passes_of rows)
strikes_least g rows lists legal are = least_by_strikes are legal

-- If exactly the members of a certificate have pass k or a later one, and exactly they have a later one, the certificate's list
-- for the direction of pass k has the strikes of pass k.
pub certificate_strikes : (g : Grammar) (c : Stuck) (m : Passes) (k : ℕ) → IsCertificate g c
    → ((s a : ℕ) → Members c.set s a ↔ HasPassFrom m k s a) → ((s a : ℕ) → Members c.set s a ↔ HasPassAfter m k s a)
    → AreStrikesAt g m k (list_for c (direction_of k))
certificate_strikes g c m k is from after =
    exactly_same (all_for g c is (direction_of k)) (λ s a. (from s a).0) (λ s a. (after s a).0) (λ s a. (after s a).1)

pub chain_shows : (g : Grammar) (rows : List (List ℕ)) (lists : List (List Strike)) (k s a : ℕ) (xs : List Strike)
    (other : Passes) → AreStrikesOf g rows lists → k ≤ length lists
    → IsChainOf g (direction_of (suc k)) (HasPassFrom (passes_of rows) (suc k)) s a xs → IsLegal g other → (p : ℕ)
    → partial_of other s a ≡ Some p → suc k < p
chain_shows g rows lists k s a xs other are le chain legal =
    let h = partial_legal g other legal in
    chain_later h (suc k) (HasPassFrom (passes_of rows) (suc k)) (climb are h k le) s a xs chain

pub chain_there : (g : Grammar) (m : Passes) (k : ℕ) (xs : List Strike) → AreStrikesAt g m k xs → (s a : ℕ) → HasPassAfter m k s a
    → (ys : List Strike) × IsChainOf g (direction_of k) (HasPassFrom m k) s a ys
chain_there g m k xs are s a later = good_chains g (direction_of k) (HasPassFrom m k) xs are.good s a (are.all s a later)

-- the strikes of a pass before that of some attribute
pub strikes_at : (g : Grammar) (rows : List (List ℕ)) (lists : List (List Strike)) → AreStrikesOf g rows lists → (k s a : ℕ)
    → 1 ≤ k → HasPassAfter (passes_of rows) k s a → AreStrikesAt g (passes_of rows) k (strikes_of lists k)
strikes_at g rows lists are zero s a le later = absurd (omega arith)
strikes_at g rows lists are (suc k) s a le later =
    let most = given_at_most rows (length lists) s a later.0 are.count.most later.1 in
    at_pass are k (omega arith)
