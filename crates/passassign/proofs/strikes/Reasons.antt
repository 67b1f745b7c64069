-- A good strike stays good with more candidates and more struck attributes before it.
use Rattle.passassign.proofs.Common
use Common.{ℕ, ◌≡◌, inl, inr, Option, Some, None, refl, Item, Grammar, item_at, Direction, Strike, Attributes, IsOneOf}
use Common.{IsReasonWhere, IsGoodWhere}
use Common.item

abbrev pub AreWithin : Attributes → Attributes → Type 0
AreWithin some more = (s a : ℕ) → some s a → more s a

-- one of these attributes is an attribute of a symbol
pub one_is : (these : Attributes) (x : Option Item) (a : ℕ) → IsOneOf these x a
    → (s : ℕ) × (x ≡ Some (item.Symbol s)) × these s a
one_is these None a i = absurd i
one_is these (Some (item.Symbol s)) a i = (s, refl, i)
one_is these (Some (item.Terminal t)) a i = absurd i

one_more : {some more : Attributes} → AreWithin some more → (x : Option Item) (a : ℕ) → IsOneOf some x a → IsOneOf more x a
one_more {some} h x a i = let (s, e, one) = one_is some x a i in rw e (h s a one)

module _ {g : Grammar} {d : Direction} {some more struck also : Attributes} {x : Strike} (i : IsGoodWhere g d some struck x) where
  -- it is good wherever its argument is a reason
  pub good_for : IsReasonWhere d more also i.production i.rule.target.place i.argument → IsGoodWhere g d more also x
  good_for reason =
      record {
        production = i.production;
        rule = i.rule;
        argument = i.argument;
        is_production = i.is_production;
        is_rule = i.is_rule;
        is_argument = i.is_argument;
        symbol = i.symbol;
        attr = i.attr;
        reason = reason;
      }

  pub good_more : AreWithin some more → AreWithin struck also → IsGoodWhere g d more also x
  good_more h l =
      good_for
      (elim i.reason [
        | inl o ↦ inl (one_more l (item_at i.production i.argument.place) i.argument.attr o)
        | inr o ↦ inr (o.0, one_more h (item_at i.production i.argument.place) i.argument.attr o.1)
      ])
