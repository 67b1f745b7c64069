-- A walk down the strikes of a list, from each to the one that it waits for.
use Rattle.passassign.proofs.Common
use Common.{ℕ, ◌≡◌, ◌<◌, ◌++◌, List, [], ◌∷◌, Option, None, Some, Result, Ok, Err, IfOk, IfSome, slice_get, get_or, take, length}
use Common.{inl, inr, refl, slice_get-get_or, get_or_from_slice_get, Has, Grammar, Direction, Strike, Attributes, AreGood}
use Common.{IsStruckBy, AreAwaitedBefore, AreLinked, IsChainOf, StartsWith, WaitsFor, WaitsForNone, strike_at}
use Rattle.passassign.proofs.slots.Lists.{get_push_cases}
use Rattle.passassign.proofs.strikes.Chained.{good_awaited, linked_chain}
use Rattle.passassign.proofs.strikes.ReportedStrikes.{in_take}

abbrev pub none : Strike
none = record { symbol = 0; attr = 0; production = 0; rule = 0; arg = 0 }

-- a strike of a prefix of a list is in the list, at the same index
prefix_at : (xs : List Strike) (n j : ℕ) → j < length (take n xs) → (j < n) × (strike_at (take n xs) j ≡ strike_at xs j)
prefix_at xs n j lt =
    let e = in_take n xs j (get_or (take n xs) j none) (slice_get-get_or (take n xs) j none lt) in
    (e.0, cc (get_or_from_slice_get xs j (get_or (take n xs) j none) none e.1))

module _ (g : Grammar) (d : Direction) (xs : List Strike) (at s a : ℕ) where
  -- if the prefix has a strike of the awaited attribute at index i, the strike at index `at` waits for the attribute of strike i
  pub found_before : WaitsFor g d (strike_at xs at) s a → (r : Option ℕ)
      → IfSome r (λ i. (i < length (take at xs)) × ((strike_at (take at xs) i).symbol ≡ s)
      × ((strike_at (take at xs) i).attr ≡ a))
      → IfSome r (λ i. (i < at) × WaitsFor g d (strike_at xs at) (strike_at xs i).symbol (strike_at xs i).attr)
  found_before waits None h = tt
  found_before waits (Some i) (lt, symbol, attr) =
      let here = prefix_at xs at i lt in (here.0, rw (← here.1, symbol, attr) waits)

  -- if awaited attributes are struck before, the prefix has such a strike, so the case `None` does not occur
  pub none_before : at < length xs → WaitsFor g d (strike_at xs at) s a → (r : Option ℕ)
      → (r ≡ None → IsStruckBy (take at xs) s a → ⊥) → r ≡ None → AreAwaitedBefore g d xs → WaitsForNone g d (strike_at xs at)
  none_before lt waits r missing e order =
      absurd (missing e (order at (strike_at xs at) (slice_get-get_or xs at none lt) s a waits))

-- links that are among some strikes, and one more of these
pub among_more : (xs links more : List Strike) (y : Strike) → more ≡ links ++ y ∷ [] → Has xs y
    → ((i : ℕ) (x : Strike) → slice_get links i ≡ Some x → Has xs x) → (i : ℕ) (x : Strike) → slice_get more i ≡ Some x → Has xs x
among_more xs links more y items has before i x e = elim (get_push_cases links y x i (rw items at e)) [
  | inl old ↦ before i x old
  | inr new ↦ rw new.1 at has
]

-- links of which the first is the strike of an attribute
pub starts : (xs links : List Strike) (at s a : ℕ) → at < length xs → (strike_at xs at).symbol ≡ s → (strike_at xs at).attr ≡ a
    → slice_get links 0 ≡ slice_get xs at → StartsWith s a links
starts xs [] at s a lt symbol attr e = cc (slice_get-get_or xs at none lt)
starts xs (y ∷ ys) at s a lt symbol attr e =
    let here = slice_get-get_or xs at none lt in
    let same : y ≡ strike_at xs at = cc in
    record { first = y; others = ys; is = refl; symbol = cc; attr = cc }

-- The result of a walk down good strikes is a chain.
pub walked : (g : Grammar) (d : Direction) (candidate : Attributes) (xs links : List Strike) (s a : ℕ)
    → AreGood g d candidate [] xs → IsStruckBy xs s a → (AreAwaitedBefore g d xs → AreLinked g d links)
    → ((i : ℕ) (x : Strike) → slice_get links i ≡ Some x → Has xs x) → (IsStruckBy xs s a → StartsWith s a links)
    → IsChainOf g d candidate s a links
walked g d candidate xs links s a good hit linked among first =
    let start = first hit in
    record {
      first = start.first;
      others = start.others;
      is = start.is;
      symbol = start.symbol;
      attr = start.attr;
      chain = linked_chain g d candidate xs good links among (linked (good_awaited g d candidate xs good));
    }

-- if the result is Ok: a consequence of three facts about its value
pub of_three : {A E : Type 0} (r : Result A E) (P Q R S : A → Type 0) → ((x : A) → P x → Q x → R x → S x) → IfOk r P → IfOk r Q
    → IfOk r R → IfOk r S
of_three (Ok x) P Q R S f p q r = f x p q r
of_three (Err e) P Q R S f p q r = tt
