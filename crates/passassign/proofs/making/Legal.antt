-- The assignment that the passes make is legal.
use Rattle.passassign.proofs.Common
use Common.{ℕ, zero, suc, ◌≡◌, ◌≤◌, ◌⊎◌, inl, inr, List, [], ◌∷◌, Option, Some, None, slice_get, refl, arith, lt_of_le-ne}
use Common.{cases_order, Each, Item, Production, Rule, Target, Literal, Class, Grammar, item_at, IsProduction, IsRule, IsArgument}
use Common.{Kind, Synthesized, Inherited, item_kinds, defined_kind, used_kind, IsComplete, IsNormal, Direction, LeftToRight}
use Common.{RightToLeft, direction_of, IsBefore, MayUse, IsLegalFor, Strike, IsStruckBy, IsSameOrLater, IsReason, Partial}
use Common.{pass_at, HasPassIn, IsLegalPartial, IsOpen, IsPass, IsMade, start, passed}
use Common.item
use Rattle.passassign.proofs.slots.Options.{none_of, some_or_none}
use Rattle.passassign.proofs.making.Made.{made_before, made_positive, old_or_new}

in_order : (d : Direction) (i j : ℕ) → (i ≡ j) ⊎ IsBefore d i j ⊎ IsBefore d j i
in_order LeftToRight i j = cases_order i j
in_order RightToLeft i j = elim (cases_order i j) [ inl e ↦ inl e | inr (inl l) ↦ inr (inr l) | inr (inr l) ↦ inr (inl l) ]

-- an argument of a pass up to k may be used, except one of pass k at the target's own child or at a later one
may_use : (k j i p : ℕ) → p ≤ k → (IsSameOrLater (direction_of k) j i → p ≡ k → ⊥) → MayUse k j i p
may_use k zero i p le ahead = le
may_use k (suc j) zero p le ahead = inl (refl, le)
may_use k (suc j) (suc i) p le ahead = elim (in_order (direction_of k) (suc i) (suc j)) [
  | inl e ↦ inr (inr (lt_of_le-ne le (ahead (omega arith, omega arith, inl e))))
  | inr (inl b) ↦ inr (inl (b, le))
  | inr (inr b) ↦ inr (inr (lt_of_le-ne le (ahead (omega arith, omega arith, inr b))))
]

-- a token's attribute has pass 0
token_pass : (a : ℕ) (x : Kind) → slice_get (Synthesized ∷ []) a ≡ Some x → slice_get {X = ℕ} (0 ∷ []) a ≡ Some 0
token_pass zero x e = refl
token_pass (suc a) x e = cc

-- an inherited attribute is one of a symbol
inherited_symbol : (g : Grammar) (x : Option Item) (a : ℕ) → slice_get (item_kinds g x) a ≡ Some Inherited
    → (s : ℕ) × (x ≡ Some (item.Symbol s))
inherited_symbol g None a e = cc
inherited_symbol g (Some (item.Symbol s)) a e = (s, refl)
inherited_symbol g (Some (item.Terminal (Literal l))) a e = cc
inherited_symbol g (Some (item.Terminal (Class c))) zero e = cc
inherited_symbol g (Some (item.Terminal (Class c))) (suc a) e = cc

-- and so is an attribute that a production defines
target_symbol : (g : Grammar) (q : Production) (j a : ℕ) → slice_get (item_kinds g (item_at q j)) a ≡ Some (defined_kind j)
    → (s : ℕ) × (item_at q j ≡ Some (item.Symbol s))
target_symbol g q zero a e = (q.left, refl)
target_symbol g q (suc j) a e = inherited_symbol g (item_at q (suc j)) a e

module _ {g : Grammar} (complete : Each (IsComplete g) g.productions) (normal : Each (IsNormal g) g.productions) where
  -- the target of a rule is an attribute of a symbol
  symbol_at : (i : ℕ) (q : Production) → IsProduction g i q → (r : Rule) → IsRule q r
      → (s : ℕ) × (item_at q r.target.place ≡ Some (item.Symbol s))
  symbol_at i q get r rule = target_symbol g q r.target.place r.target.attr ((complete i q get).no_other rule.0 r rule.1)

  module _ {k : ℕ} {m after : Partial} {strikes : List Strike} (made : IsMade g k m) (legal : IsLegalPartial g m)
      (pass : IsPass g k m after strikes) where
    -- an attribute of pass k had no pass before
    new : (s a : ℕ) → after s a ≡ Some k → m s a ≡ None
    new s a e = elim (old_or_new pass s a k e) [
      | inl old ↦ (let lt = made_before made s a k old in absurd (omega arith))
      | inr given ↦ given.0
    ]

    pass_kept : (x : Option Item) (a p : ℕ) → pass_at m x a ≡ Some p → pass_at after x a ≡ Some p
    pass_kept None a p e = e
    pass_kept (Some (item.Symbol s)) a p e = pass.kept s a p e
    pass_kept (Some (item.Terminal (Class c))) a p e = e
    pass_kept (Some (item.Terminal (Literal l))) a p e = e

    -- the argument of a rule of an attribute that gets pass k
    argument : (i : ℕ) (q : Production) → IsProduction g i q → (r : Rule) (o : Target) → IsRule q r → IsArgument r o → (s : ℕ)
        → item_at q r.target.place ≡ Some (item.Symbol s) → IsOpen g m s r.target.attr
        → (IsStruckBy strikes s r.target.attr → ⊥)
        → (p : ℕ) × HasPassIn after q o p × MayUse k r.target.place o.place p
    argument i q get r o rule arg s target gap safe =
        go (item_at q o.place) refl (normal i q get rule.0 r rule.1 arg.0 o arg.1)
      where
        free : IsReason (direction_of k) (IsOpen g m) strikes q r.target.place o → ⊥
        free reason =
            let x : Strike = record { symbol = s; attr = r.target.attr; production = i; rule = rule.0; arg = arg.0 } in
            safe
            (pass.finished x gap
            (record {
              production = q;
              rule = r;
              argument = o;
              is_production = get;
              is_rule = rule.1;
              is_argument = arg.1;
              symbol = target;
              attr = refl;
              reason = reason;
            }))

        go : (x : Option Item) → item_at q o.place ≡ x → slice_get (item_kinds g x) o.attr ≡ Some (used_kind o.place)
            → (p : ℕ) × HasPassIn after q o p × MayUse k r.target.place o.place p
        go None e kind = cc
        go (Some (item.Terminal (Literal l))) e kind = cc
        go (Some (item.Terminal (Class c))) e kind = (
          0,
          rw e (token_pass o.attr (used_kind o.place) kind),
          may_use k r.target.place o.place 0 (omega arith) (λ ahead is. omega (arith, made_positive made)),
        )
        go (Some (item.Symbol u)) e kind = elim (some_or_none (after u o.attr)) [
          | inl given ↦ (
              let f = given.1 in
              let lt = made_before (passed k m after strikes made pass) u o.attr given.0 f in (
                given.0,
                rw e f,
                may_use k r.target.place o.place given.0 (omega arith)
                    (λ ahead is. free (inr (ahead, rw e ((used_kind o.place, kind), new u o.attr cc)))),
              ))
          | inr f ↦ (
              let before = none_of (m u o.attr) (λ p h. cc (pass.kept u o.attr p h)) in
              absurd (free (inl (rw e (pass.left u o.attr ((used_kind o.place, kind), before) f)))))
        ]

    legal_after : IsLegalPartial g after
    legal_after = record {
      known = λ s a p e. elim (old_or_new pass s a p e) [ inl old ↦ legal.known s a p old | inr now ↦ now.1.0 ];
      positive = λ s a p e. elim (old_or_new pass s a p e) [
        | inl old ↦ legal.positive s a p old
        | inr now ↦ omega (arith, made_positive made)
      ];
      allowed = allowed;
    }
      where
        allowed : (i : ℕ) (q : Production) → IsProduction g i q → IsLegalFor (HasPassIn after) q
        allowed i q get r o p rule arg has =
            let (s, e) = symbol_at i q get r rule in
            elim (old_or_new pass s r.target.attr p (rw e at has)) [
              | inl old ↦ (
                  let before = legal.allowed i q get r o p rule arg (rw e old) in
                  (before.0, pass_kept (item_at q o.place) o.attr before.0 before.1, before.2))
              | inr now ↦ rw now.1.1 (argument i q get r o rule arg s e (now.1.0, now.0) now.1.2)
            ]

  legal_made : {k : ℕ} {m : Partial} → IsMade g k m → IsLegalPartial g m
  legal_made (start m none) = record {
    known = λ s a p e. cc (none s a);
    positive = λ s a p e. cc (none s a);
    allowed = λ i q get r o p rule arg has.
        let (s, e) = symbol_at i q get r rule in
        let given : m s r.target.attr ≡ Some p = rw e at has in cc (none s r.target.attr);
  }
  legal_made (passed k m after strikes made pass) = legal_after made (legal_made made) pass

pub made_legal : (g : Grammar) (k : ℕ) (m : Partial) → Each (IsComplete g) g.productions → Each (IsNormal g) g.productions
    → IsMade g k m → IsLegalPartial g m
made_legal g k m complete normal made = legal_made complete normal made
