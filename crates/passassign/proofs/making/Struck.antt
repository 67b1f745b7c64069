-- A struck attribute has a later pass, or none, in a legal partial assignment.
use Rattle.passassign.proofs.Common
use Common.{ℕ, zero, suc, ◌≡◌, ◌≤◌, inl, inr, List, [], ◌∷◌, Option, Some, arith, lt_of_le-ne, Item, Production, Target, Grammar}
use Common.{item_at, Direction, LeftToRight, RightToLeft, direction_of, IsBefore, MayUse, may_le, Strike, Attributes, IsStruckBy}
use Common.{IsOneOf, IsReason, IsGood, AreGood, Partial, HasPassIn, IsLegalPartial, pass_at}
use Rattle.passassign.proofs.strikes.Reasons.{one_is}

-- these attributes have no pass before k
abbrev pub AtLeast : Partial → ℕ → Attributes → Type 0
AtLeast n k these = (s a p : ℕ) → these s a → n s a ≡ Some p → k ≤ p

-- no two places are each before the other
not_both : (d : Direction) (i j : ℕ) → IsBefore d i j → IsBefore d j i → ⊥
not_both LeftToRight i j h l = omega arith
not_both RightToLeft i j h l = omega arith

not_itself : (d : Direction) (i j : ℕ) → i ≡ j → IsBefore d i j → ⊥
not_itself LeftToRight i j e h = omega arith
not_itself RightToLeft i j e h = omega arith

one_at : {n : Partial} (k : ℕ) (these : Attributes) → AtLeast n k these → (x : Option Item) (a p : ℕ) → IsOneOf these x a
    → pass_at n x a ≡ Some p → k ≤ p
one_at k these h x a p i e = let (s, is, one) = one_is these x a i in h s a p one (rw is at e)

module _ {g : Grammar} {n : Partial} (legal : IsLegalPartial g n) (k : ℕ) (candidate : Attributes) (low : AtLeast n k candidate)
  where
    module _ (struck : List Strike) (high : AtLeast n (suc k) (IsStruckBy struck)) where
      -- an argument that may be used is not a reason
      no_reason : (q : Production) (j : ℕ) (o : Target) (p : ℕ) → HasPassIn n q o p → MayUse k j o.place p
          → IsReason (direction_of k) candidate struck q j o → ⊥
      no_reason q j o p e may (inl i) =
          omega (arith, one_at (suc k) (IsStruckBy struck) high (item_at q o.place) o.attr p i e, may_le k j o.place p may)
      no_reason q zero o p e may (inr ((pos, some, w), i)) = omega arith
      no_reason q (suc j) o p e (inl (z, le)) (inr ((pos, some, w), i)) = omega arith
      no_reason q (suc j) o p e (inr (inl (f, le))) (inr ((pos, some, w), i)) =
          elim w [
            | inl s ↦ not_itself (direction_of k) o.place (suc j) s f
            | inr b ↦ not_both (direction_of k) o.place (suc j) f b
          ]
      no_reason q (suc j) o p e (inr (inr lt)) (inr (ahead, i)) =
          omega (arith, one_at k candidate low (item_at q o.place) o.attr p i e)

      -- an attribute that is struck in pass k does not have it
      pub not_here : (x : Strike) → candidate x.symbol x.attr → IsGood g (direction_of k) candidate struck x → (p : ℕ)
          → n x.symbol x.attr ≡ Some p → suc k ≤ p
      not_here x is good p e = lt_of_le-ne (low x.symbol x.attr p is e) (λ same.
          let may =
          legal.allowed x.production good.production good.is_production good.rule good.argument k (x.rule, good.is_rule)
          (x.arg, good.is_argument) (rw (good.symbol, good.attr, same) e) in
          no_reason good.production good.rule.target.place good.argument may.0 may.1 may.2 good.reason)

    later_after : (struck : List Strike) → AtLeast n (suc k) (IsStruckBy struck) → (xs : List Strike)
        → AreGood g (direction_of k) candidate struck xs → AtLeast n (suc k) (IsStruckBy xs)
    later_after struck high [] good s a p hit e = absurd hit
    later_after struck high (x ∷ xs) (is, new, one, more) s a p hit e =
        elim hit [ inl h ↦ first s a p h e | inr h ↦ later_after (x ∷ struck) both xs more s a p h e ]
      where
        first : (s a p : ℕ) → (x.symbol ≡ s) × (x.attr ≡ a) → n s a ≡ Some p → suc k ≤ p
        first s a p (u, b) e = not_here struck high x is one p cc

        both : AtLeast n (suc k) (IsStruckBy (x ∷ struck))
        both s a p (inl h) e = first s a p h e
        both s a p (inr h) e = high s a p h e

    pub struck_later : (xs : List Strike) → AreGood g (direction_of k) candidate [] xs → AtLeast n (suc k) (IsStruckBy xs)
    struck_later = later_after [] (λ u b c none has. absurd none)
