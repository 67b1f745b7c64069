-- Chains of strikes: their meaning, and that each good strike begins one.
use Rattle.passassign.proofs.Common
use Common.{ℕ, suc, ◌≡◌, ◌≤◌, ◌⊎◌, inl, inr, List, [], ◌∷◌, Option, Some, None, zero, slice_get, take, refl, Has, Production}
use Common.{Rule, Target, Grammar, item_at, Direction, direction_of, Strike, Attributes, IsStruckBy, IsReason, IsGood}
use Common.{IsGoodWhere, AreGood, AreAwaitedBefore, AreLinked, IsChainOf, WaitsFor, WaitsForNone, Partial, IsLegalPartial}
use Common.item
use Rattle.passassign.specs.Chains.{first_only, IsAwaited, IsChain, IsWait, Names}
use Rattle.passassign.proofs.making.Struck.{AtLeast, not_here}
use Rattle.passassign.proofs.strikes.Following.{has_strikes, strikes_open}
use Rattle.passassign.proofs.strikes.Reasons.{AreWithin, good_for, good_more, one_is}

-- In a legal partial assignment n, the first attribute of a chain for pass k has a later pass or none, if no candidate has a pass
-- before k.
module _ {g : Grammar} {n : Partial} (legal : IsLegalPartial g n) (k : ℕ) (candidate : Attributes) (low : AtLeast n k candidate)
  where
    first_later : (xs : List Strike) → IsChain g (direction_of k) candidate xs → AtLeast n (suc k) (IsStruckBy (first_only xs))
    first_later [] chain s a p none e = absurd none
    first_later (x ∷ xs) (is, good, more) s a p (inr none) e = absurd none
    first_later (x ∷ xs) (is, good, more) s a p (inl (u, b)) e =
        not_here legal k candidate low (first_only xs) (first_later xs more) x is good p cc

    pub chain_later : (s a : ℕ) (xs : List Strike) → IsChainOf g (direction_of k) candidate s a xs → (p : ℕ) → n s a ≡ Some p
        → suc k ≤ p
    chain_later s a xs is p e =
        first_later (is.first ∷ is.others) (rw is.is at is.chain) s a p (inl (is.symbol, is.attr)) e

abbrev pub HasChain : Grammar → Direction → Attributes → Attributes
HasChain g d candidate s a = (xs : List Strike) × IsChainOf g d candidate s a xs

-- each attribute that a list strikes has a chain
abbrev pub HaveChains : Grammar → Direction → Attributes → List Strike → Type 0
HaveChains g d candidate xs = AreWithin (IsStruckBy xs) (HasChain g d candidate)

module _ (g : Grammar) (d : Direction) (candidate : Attributes) where
  chain_one : (struck : List Strike) → HaveChains g d candidate struck → (x : Strike) → candidate x.symbol x.attr
      → IsGood g d candidate struck x → HasChain g d candidate x.symbol x.attr
  chain_one struck have x is good = elim good.reason [
    | inl i ↦ (
        let (s, e, hit) = one_is (IsStruckBy struck) (item_at good.production good.argument.place) good.argument.attr i in
        following s e (have s good.argument.attr hit))
    | inr ahead ↦ made [] tt (inr ahead)
  ]
    where
      made : (ys : List Strike) → IsChain g d candidate ys
          → IsReason d candidate (first_only ys) good.production good.rule.target.place good.argument
          → HasChain g d candidate x.symbol x.attr
      made ys chain reason = (
        x ∷ ys,
        record { first = x; others = ys; is = refl; symbol = refl; attr = refl; chain = (is, good_for good reason, chain) },
      )

      following : (s : ℕ) → item_at good.production good.argument.place ≡ Some (item.Symbol s)
          → HasChain g d candidate s good.argument.attr → HasChain g d candidate x.symbol x.attr
      following s e (ys, w) = made (w.first ∷ w.others) (rw w.is at w.chain) (inl (rw e (inl (w.symbol, w.attr))))

  chains : (struck xs : List Strike) → HaveChains g d candidate struck → AreGood g d candidate struck xs
      → HaveChains g d candidate xs
  chains struck [] have good s a h = absurd h
  chains struck (x ∷ xs) have (is, new, good, more) s a h =
      elim h [ inl e ↦ first s a e | inr m ↦ chains (x ∷ struck) xs both more s a m ]
    where
      first : (s a : ℕ) → (x.symbol ≡ s) × (x.attr ≡ a) → HasChain g d candidate s a
      first s a (u, b) = rw (← u, ← b) (chain_one struck have x is good)

      both : HaveChains g d candidate (x ∷ struck)
      both s a (inl e) = first s a e
      both s a (inr m) = have s a m

  pub good_chains : (xs : List Strike) → AreGood g d candidate [] xs → HaveChains g d candidate xs
  good_chains xs good = chains [] xs (λ s a h. absurd h) good

-- the production, rule and argument that a strike names are unique
same_names : {g : Grammar} {x : Strike} {q p : Production} {u r : Rule} {o t : Target} → Names g x q u o → Names g x p r t
    → (q ≡ p) × (u ≡ r) × (o ≡ t)
same_names {q = q} {p} {u} {r} h n =
    let first : q ≡ p = cc in
    let second : u ≡ r = cc in (first, second, cc)

-- A good strike x: the production, rule and argument that it names, and the attribute that it waits for.
module _ {g : Grammar} {d : Direction} {candidate : Attributes} (xs : List Strike) {x : Strike}
    (good : IsGoodWhere g d candidate (IsStruckBy xs) x) where
  own_names : Names g x good.production good.rule good.argument
  own_names = record { is_production = good.is_production; is_rule = good.is_rule; is_argument = good.is_argument }

  -- a strike that waits for no attribute is good if none is struck before it
  root_good : WaitsForNone g d x → AreWithin (IsStruckBy xs) candidate → IsGood g d candidate [] x
  root_good none within =
      good_for good
      (elim good.reason [
        | inl i ↦ (
            let (s, e, hit) = one_is (IsStruckBy xs) (item_at good.production good.argument.place) good.argument.attr i in
            inr (none good.production good.rule good.argument s own_names e, rw e (within s good.argument.attr hit)))
        | inr ahead ↦ inr ahead
      ])

  module _ {s a : ℕ} (waits : WaitsFor g d x s a) where
    same : (waits.production ≡ good.production) × (waits.rule ≡ good.rule) × (waits.argument ≡ good.argument)
    same = same_names waits.named own_names

    at_place : item_at good.production good.argument.place ≡ Some (item.Symbol s)
    at_place = cc (same.0, same.2)

    own_attr : good.argument.attr ≡ a
    own_attr = cc same.2

    -- the attribute that the strike waits for is struck
    awaited_struck : IsStruckBy xs s a
    awaited_struck = elim good.reason [
      | inl i ↦ rw (at_place, own_attr) at i
      | inr (ahead, i) ↦ absurd (waits.not_same_or_later (rw (same.1, same.2) ahead))
    ]

    -- and the strike is good if only that attribute is struck
    link_good : (y : Strike) → y.symbol ≡ s → y.attr ≡ a → IsGood g d candidate (y ∷ []) x
    link_good y e f = good_for good (inl (rw (at_place, own_attr) (inl (e, f))))

pub wait_of : (g : Grammar) (d : Direction) (x : Strike) (q : Production) (u : Rule) (o : Target) (r : Option (ℕ × ℕ))
    → Names g x q u o → IsAwaited d q u o r → IsWait g d x r
wait_of g d x q u o (Some w) names h =
    record { production = q; rule = u; argument = o; named = names; not_same_or_later = h.0; symbol = h.1; attr = h.2 }
wait_of g d x q u o None names h = λ p r t s n e.
    let same = same_names names n in rw (← same.1, ← same.2) (h s (cc (same.0, same.2)))

take_hit : (n : ℕ) (xs : List Strike) (s a : ℕ) → IsStruckBy (take n xs) s a → IsStruckBy xs s a
take_hit zero xs s a h = absurd h
take_hit (suc n) [] s a h = absurd h
take_hit (suc n) (x ∷ xs) s a (inl e) = inl e
take_hit (suc n) (x ∷ xs) s a (inr m) = inr (take_hit n xs s a m)

-- Links of a chain in a list of good strikes.
module _ (g : Grammar) (d : Direction) (candidate : Attributes) where
  good_after : (struck xs : List Strike) → AreGood g d candidate struck xs → (i : ℕ) (x : Strike) → slice_get xs i ≡ Some x
      → (zs : List Strike) × IsGood g d candidate zs x
      × ((s a : ℕ) → IsStruckBy zs s a → IsStruckBy struck s a ⊎ IsStruckBy (take i xs) s a)
  good_after struck [] good i x e = cc
  good_after struck (y ∷ ys) (is, new, one, more) zero x e =
      let same : y ≡ x = cc in (struck, rw same at one, λ s a h. inl h)
  good_after struck (y ∷ ys) (is, new, one, more) (suc i) x e =
      let w = good_after (y ∷ struck) ys more i x e in (
        w.0,
        w.1,
        λ s a h. elim (w.2 s a h) [ inl (inl first) ↦ inr (inl first) | inl (inr old) ↦ inl old | inr t ↦ inr (inr t) ],
      )

  module _ (xs : List Strike) (good : AreGood g d candidate [] xs) where
    good_at : (i : ℕ) (x : Strike) → slice_get xs i ≡ Some x → IsGood g d candidate (take i xs) x
    good_at i x at =
        let w = good_after [] xs good i x at in
        good_more w.1 (λ s a h. h) (λ s a h. elim (w.2 s a h) [ inl bad ↦ absurd bad | inr t ↦ t ])

    is_candidate : (x : Strike) → Has xs x → candidate x.symbol x.attr
    is_candidate x h = strikes_open g d candidate [] xs good x.symbol x.attr (has_strikes xs x h)

    -- In good strikes, the attribute that one waits for is struck before it,
    pub good_awaited : AreAwaitedBefore g d xs
    good_awaited i x at s a waits = awaited_struck (take i xs) (good_at i x at) waits

    -- and good strikes that are linked are a chain.
    pub linked_chain : (links : List Strike) → ((i : ℕ) (x : Strike) → slice_get links i ≡ Some x → Has xs x)
        → AreLinked g d links → IsChain g d candidate links
    linked_chain [] among linked = tt
    linked_chain (x ∷ []) among (alone, none) =
        let (i, at) = among 0 x refl in (
          is_candidate x (i, at),
          root_good (take i xs) (good_at i x at) alone
              (λ s a h. strikes_open g d candidate [] xs good s a (take_hit i xs s a h)),
          tt,
        )
    linked_chain (x ∷ y ∷ ys) among (link, more) =
        let (i, at) = among 0 x refl in (
          is_candidate x (i, at),
          link_good (take i xs) (good_at i x at) link y refl refl,
          linked_chain (y ∷ ys) (λ i z e. among (suc i) z e) more,
        )
