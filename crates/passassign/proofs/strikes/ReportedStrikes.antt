-- The strikes that `search` returns are good. Each is that of a dependency, which is the reason of an addition of `closure`.
use Rattle.passassign.proofs.Common
use Common.{ℕ, zero, suc, ◌≡◌, ◌<◌, ◌≤◌, ◌+◌, ◌⊎◌, ◌↔◌, Bool, true, List, [], ◌∷◌, ◌++◌, Some, All, map, take, slice_get, length}
use Common.{get_or, inl, inr, subst, ◌∙◌, arith, cases_eq, take_all, slice_get-get_or, slice_get_within}
use Common.{get_or_from_slice_get, Has, Grammar, item_at, Direction, Addition, IsStruckBy, IsGood, AreGood, dependency_of}
use Common.{IsOpen, target_of, edge_of, IsBarred, IsStrikeOf, IsStruckAt, BelongTo, IsSearch, slot_of, state_at, is_marked}
use Common.{table_passes, Dependency, Strike, State, Open}
use Common.item
use Rattle.std.proofs.Math.Seq.{take-suc}
use Rattle.std.proofs.lemmas.List.Elements.{All-head, All-map}
use Rattle.closure.specs.Additions.{IsAdded, IsAddedBefore, IsReason as IsReasonOf, AreInOrder}
use Rattle.closure.specs.Edges.{clause_of_edge, IsEdgeBelow}
use Rattle.closure.specs.Following.{AreClosure, seed}
use Rattle.closure.specs.declared.addition.Reason.{Reason}
use Rattle.closure.specs.declared.addition.Reason.TheVariants as reason
use Rattle.closure.specs.declared.clause.Clause.{Clause}
use Rattle.closure.proofs.Positions.{at_mapped, element_at, mapped_at}
use Rattle.closure.proofs.Reached.{step}
use Rattle.passassign.specs.Searching.{dependency_by, AreBarred}
use Rattle.passassign.specs.Searching.{AreStrikesBy}
use Rattle.passassign.proofs.slots.Lists.{get_push_end, get_push_front}
use Rattle.passassign.proofs.strikes.Following.{strikes_open, has_strikes, struck_at, at_struck, good_by}
use Rattle.passassign.proofs.strikes.Growing.{strikes_grow}
use Rattle.passassign.proofs.strikes.Reasons.{one_is}
use Rattle.passassign.proofs.slots.Linked.{parts, has_dependency, attribute_within, open_there, open_state, target_is}

-- a strike and an addition for places past the end of a list
abbrev no_strike : Strike
no_strike = record { symbol = 0; attr = 0; production = 0; rule = 0; arg = 0 }

abbrev no_addition : Addition
no_addition = record { number = 0; reason = reason.Seed 0 }

-- a member of a list's prefix is in the list, at the same index
pub in_take : {A : Type 0} (n : ℕ) (xs : List A) (i : ℕ) (x : A) → slice_get (take n xs) i ≡ Some x
    → (i < n) × (slice_get xs i ≡ Some x)
in_take zero xs i x e = cc
in_take (suc n) [] i x e = cc
in_take (suc n) (y ∷ xs) zero x e = (omega arith, e)
in_take (suc n) (y ∷ xs) (suc i) x e = let w = in_take n xs i x e in let l = w.0 in (omega arith, w.1)

take_has : {A : Type 0} (n : ℕ) (xs : List A) (i : ℕ) (x : A) → i < n → slice_get xs i ≡ Some x → slice_get (take n xs) i ≡ Some x
take_has zero xs i x lt e = absurd (omega arith)
take_has (suc n) [] i x lt e = e
take_has (suc n) (y ∷ xs) zero x lt e = e
take_has (suc n) (y ∷ xs) (suc i) x lt e = take_has n xs i x (omega arith) e

-- the clauses of dependencies
abbrev pub clauses_of : List Dependency → List Clause
clauses_of all = map clause_of_edge (map edge_of all)

pub edges_below : (all : List Dependency) (count : ℕ)
    → ((u : Dependency) → Has all u → (u.argument < count) × (target_of u < count)) → All (IsEdgeBelow count) (map edge_of all)
edges_below all count within =
    All-map (IsEdgeBelow count) edge_of all
    (λ k d lt. let w = within (get_or all k d) (k, slice_get-get_or all k d lt) in record { from = w.0; to = w.1 })

pub seeds_below : (all barred : List Dependency) (d : Direction) (states : List State) → AreBarred d states all barred
    → (count : ℕ) → ((u : Dependency) → Has all u → (u.argument < count) × (target_of u < count))
    → All (λ t. t < count) (map target_of barred)
seeds_below all barred d states bars count within =
    All-map (λ t. t < count) target_of barred
    (λ k o lt. (within (get_or barred k o) ((bars (get_or barred k o)).0 (k, slice_get-get_or barred k o lt)).0).1)

-- if the strikes xs are those of the first n additions, one more strike is that of the next addition
pub strike_more : (all barred : List Dependency) (added : List Addition) (xs : List Strike) (n : ℕ) (o : Addition)
    (u : Dependency) → length xs ≡ n → dependency_by all barred (get_or added n o).reason ≡ Some u
    → ((i : ℕ) (x : Addition) → i < n → slice_get added i ≡ Some x → IsStrikeOf all barred xs i x)
    → (i : ℕ) (x : Addition) → i < n + 1 → slice_get added i ≡ Some x → IsStrikeOf all barred (xs ++ u.strike ∷ []) i x
strike_more all barred added xs n o u len by before i x lt e = elim (cases_eq i n) [
  | inl same ↦ (
      let here : get_or added n o ≡ x = get_or_from_slice_get added n x o (rw same at e) in
      (u, rw here at by, rw (same, ← len) (get_push_end xs u.strike)))
  | inr other ↦ (let w = before i x (omega arith) e in (w.0, w.1, get_push_front xs u.strike w.0.strike i w.2))
]

-- a reason names a dependency
pub named : (all barred : List Dependency) (there : ℕ → Type 0) (n : ℕ) (r : Reason)
    → IsReasonOf (clauses_of all) (map target_of barred) there n r → (u : Dependency) × (dependency_by all barred r ≡ Some u)
named all barred there n (reason.Seed i) h = let w = mapped_at target_of barred i n h in (w.0, w.1)
named all barred there n (reason.Clause p) h =
    let c = mapped_at clause_of_edge (map edge_of all) p h.0 h.1 in
    let w = mapped_at edge_of all p c.0 c.1 in
    (w.0, w.1)

-- The dependency of the strike at index i. It bars its target from the pass, or its argument was added before.
record IsReportedAt (all : List Dependency) (d : Direction) (states : List State) (added : List Addition) (xs : List Strike)
    (i : ℕ) (x : Addition) : Type 0 where
  u : Dependency
  among : Has all u
  strike : slice_get xs i ≡ Some u.strike
  target : target_of u ≡ x.number
  why : IsBarred d states u ⊎ IsAddedBefore added i u.argument

module _ (all barred : List Dependency) (d : Direction) (states : List State) (bars : AreBarred d states all barred) where
  -- The dependency that a reason for the number n names: its target is n, and it bars this target, or its argument has the
  -- property `there`.
  by_name : (there : ℕ → Type 0) (n : ℕ) (r : Reason) (u : Dependency) → dependency_by all barred r ≡ Some u
      → IsReasonOf (clauses_of all) (map target_of barred) there n r
      → Has all u × (target_of u ≡ n) × (IsBarred d states u ⊎ there u.argument)
  by_name there n (reason.Seed i) u is h =
      let e = at_mapped target_of barred i u is in
      let b = (bars u).0 (i, is) in
      (b.0, cc h, inl b.1)
  by_name there n (reason.Clause p) u is h =
      let e = at_mapped clause_of_edge (map edge_of all) p (edge_of u) (at_mapped edge_of all p u is) in
      let f : clause_of_edge (edge_of u) ≡ h.0 = cc h.1 in
      ((p, is), rw (← f) at h.2, inr (All-head there u.argument [] (rw (← f) at h.3)))

  module _ (added : List Addition) (order : AreInOrder (clauses_of all) (map target_of barred) added) (xs : List Strike)
      (exact : AreStrikesBy all barred added xs) where
    reported_at : (i : ℕ) (x : Addition) → slice_get added i ≡ Some x → IsReportedAt all d states added xs i x
    reported_at i x e =
        let t = exact.exact i x e in
        let w = by_name (IsAddedBefore added i) x.number x.reason t.0 t.1 (order.reasoned i x e) in
        record { u = t.0; among = w.0; strike = t.2; target = w.1; why = w.2 }

    whole : take (length xs) xs ≡ xs
    whole = take_all (length xs) xs (omega arith)

    -- the slot of an addition before index n is struck before index n, and the converse
    struck_before : (n k : ℕ) → IsAddedBefore added n k → IsStruckAt (take n xs) k
    struck_before n k (i, x, lt, e, is) = let t = reported_at i x e in
        (t.u.strike, (i, take_has n xs i t.u.strike lt t.strike), t.target ∙ is)

    added_before : (n k : ℕ) → IsStruckAt (take n xs) k → IsAddedBefore added n k
    added_before n k (y, (i, e), is) =
        let w = in_take n xs i y e in
        let lt = slice_get_within xs i y w.1 in
        let len = exact.len in
        let here = slice_get-get_or added i no_addition (omega arith) in
        let t = reported_at i (get_or added i no_addition) here in
        let same : y ≡ t.u.strike = cc in
        (i, get_or added i no_addition, w.0, here, cc)

    module _ (g : Grammar) (of : BelongTo g all states) where
      -- the next strike is a good one
      good_next : (n : ℕ) (y : Strike) → slice_get xs n ≡ Some y → AreGood g d (IsOpen g (table_passes states)) [] (take n xs)
          → AreGood g d (IsOpen g (table_passes states)) [] (take n xs ++ y ∷ [])
      good_next n y e before =
          let lt = slice_get_within xs n y e in
          let len = exact.len in
          let next = get_or added n no_addition in
          let here : slice_get added n ≡ Some next = slice_get-get_or added n no_addition (omega arith) in
          let t = reported_at n next here in
          let s = t.u.strike.symbol in
          let a = t.u.strike.attr in
          let same : t.u.strike ≡ y = cc in
          let p = parts g t.u (subst (λ ys. Has ys t.u) of.dependencies t.among) in
          let is = attribute_within g s a of.accepted (target_is of.accepted p) in
          let argument : state_at states t.u.argument ≡ Open =
          elim t.why [
            | inl b ↦ b.1
            | inr h ↦ (
                let (x, has, o) = struck_before n t.u.argument h in
                rw (← o)
                (open_state of x.symbol x.attr
                (strikes_open g d (IsOpen g (table_passes states)) [] (take n xs) before x.symbol x.attr
                (has_strikes (take n xs) x has))).1)
          ] in
          rw (← same)
          (strikes_grow g d (table_passes states) (take n xs) t.u.strike before
          (open_there of s a is.0 (of.led t.u t.among argument))
          (λ h.
          let b = added_before n (target_of t.u) (struck_at d (take n xs) of before s a h) in
          let again : b.0 ≡ n = order.once b.0 n b.1 next b.3 here (cc (b.4, t.target)) in
          omega arith)
          (good_by d (take n xs) of before t.u p
          (elim t.why [ inl b ↦ inl b | inr h ↦ inr (struck_before n t.u.argument h) ])))

      good_prefix : (n : ℕ) → n ≤ length xs → AreGood g d (IsOpen g (table_passes states)) [] (take n xs)
      good_prefix zero most = tt
      good_prefix (suc n) most =
          let lt : n < length xs = omega arith in
          rw (take-suc xs n no_strike lt)
          (good_next n (get_or xs n no_strike) (slice_get-get_or xs n no_strike lt) (good_prefix n (omega arith)))

      good_all : AreGood g d (IsOpen g (table_passes states)) [] xs
      good_all = rw whole at (good_prefix (length xs) (omega arith))

    module _ (marks : List Bool) (is_added : (t : ℕ) → is_marked marks t ≡ true ↔ IsAdded added t)
        (closure : AreClosure (clauses_of all) (map target_of barred) marks) where
      marked : (k : ℕ) → (is_marked marks k ≡ true) ↔ IsStruckAt xs k
      marked k = (
        (λ m. let a = (is_added k).0 m in let w = slice_get_within added a.0 a.1 a.2 in let len = exact.len in
            rw whole at (struck_before (length xs) k (a.0, a.1, omega arith, a.2, a.3))),
        (λ h. let b = added_before (length xs) k (rw whole h) in (is_added k).1 (b.0, b.1, b.3, b.4)),
      )

      closed : (u : Dependency) → Has all u → is_marked marks u.argument ≡ true → is_marked marks (target_of u) ≡ true
      closed u h m =
          (closure (target_of u)).1
          (step (map edge_of all) (map target_of barred) (edge_of u)
          (element_at (map edge_of all) h.0 (edge_of u) (at_mapped edge_of all h.0 u h.1)) ((closure u.argument).0 m))

      kept_out : (u : Dependency) → Has all u → IsBarred d states u → is_marked marks (target_of u) ≡ true
      kept_out u h b = let w = (bars u).1 (h, b) in
          (closure (target_of u)).1
          (seed (element_at (map target_of barred) w.0 (target_of u) (at_mapped target_of barred w.0 u w.1)))

      -- if there is a reason to strike an attribute, it is struck
      module _ (g : Grammar) (of : BelongTo g all states) (x : Strike) (is : IsOpen g (table_passes states) x.symbol x.attr)
          (good : IsGood g d (IsOpen g (table_passes states)) xs x) where
        abbrev one : ℕ → Dependency
        one t = dependency_of x.production (x.rule, good.rule) (x.arg, good.argument) x.symbol t

        among : (t : ℕ) → item_at good.production good.argument.place ≡ Some (item.Symbol t) → Has all (one t)
        among t e = rw of.dependencies
            (has_dependency g (x.production, good.production) (x.rule, good.rule) (x.arg, good.argument) x.symbol t
            good.is_production good.is_rule good.is_argument good.symbol e)

        finished_at : IsStruckBy xs x.symbol x.attr
        finished_at =
            let a = good.argument.attr in
            let here = open_state of x.symbol x.attr is in
            let m : is_marked marks (slot_of x.symbol good.rule.target.attr) ≡ true =
            elim good.reason [
              | inl i ↦ (
                  let (s, e, h) = one_is (IsStruckBy xs) (item_at good.production good.argument.place) a i in
                  closed (one s) (among s e) ((marked (slot_of s a)).1 (struck_at d xs of (good_all g of) s a h)))
              | inr (ahead, i) ↦ (
                  let (s, e, o) =
                  one_is (IsOpen g (table_passes states)) (item_at good.production good.argument.place) a i in
                  kept_out (one s) (among s e) (ahead, (open_state of s a o).1))
            ] in
            at_struck d xs of (good_all g of) x.symbol x.attr here.0
            ((marked (slot_of x.symbol x.attr)).0 (rw good.attr at m))

      pub is_search : IsSearch all d states xs marks
      is_search = record { marked = marked; closed = closed; good = good_all; finished = finished_at }
