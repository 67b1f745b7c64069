-- Struck attributes, named by their numbers and by their slots in the table.
use Rattle.passassign.proofs.Common
use Common.{ℕ, zero, suc, ◌≡◌, ◌<◌, ◌⊎◌, List, [], ◌∷◌, slice_get, Some, inl, inr, refl, Has, Grammar, Direction, Attributes}
use Common.{IsStruckBy, IsReason, IsGood, AreGood, IsOpen, IsBarred, IsStruckAt, BelongTo, slot_of, table_passes, Dependency}
use Common.{Strike, State}
use Rattle.passassign.proofs.slots.Linked.{Parts, argument_within, slot_same, open_there, open_state}

pub strikes_has : (xs : List Strike) (s a : ℕ) → IsStruckBy xs s a → (x : Strike) × Has xs x × (x.symbol ≡ s) × (x.attr ≡ a)
strikes_has [] s a h = absurd h
strikes_has (x ∷ xs) s a h = elim h [
  | inl e ↦ (x, (zero, refl), e.0, e.1)
  | inr m ↦ (let o = strikes_has xs s a m in (o.0, (suc o.1.0, o.1.1), o.2, o.3))
]

has_strikes_at : (xs : List Strike) (i : ℕ) (x : Strike) → slice_get xs i ≡ Some x → IsStruckBy xs x.symbol x.attr
has_strikes_at [] i x e = cc
has_strikes_at (y ∷ xs) zero x e = let f : y ≡ x = cc in inl (cc, cc)
has_strikes_at (y ∷ xs) (suc i) x e = inr (has_strikes_at xs i x e)

pub has_strikes : (xs : List Strike) (x : Strike) → Has xs x → IsStruckBy xs x.symbol x.attr
has_strikes xs x h = has_strikes_at xs h.0 x h.1

pub strikes_open : (g : Grammar) (d : Direction) (candidate : Attributes) (struck xs : List Strike)
    → AreGood g d candidate struck xs → (s a : ℕ) → IsStruckBy xs s a → candidate s a
strikes_open g d candidate struck [] good s a h = absurd h
strikes_open g d candidate struck (x ∷ xs) (is, new, one, more) s a (inl e) = rw (← e.0, ← e.1) is
strikes_open g d candidate struck (x ∷ xs) (is, new, one, more) s a (inr m) =
    strikes_open g d candidate (x ∷ struck) xs more s a m

-- the attributes that a search has struck, named in both ways
module _ {g : Grammar} {all : List Dependency} (d : Direction) {states : List State} (xs : List Strike)
    (of : BelongTo g all states) (good : AreGood g d (IsOpen g (table_passes states)) [] xs) where
  pub struck_within : (x : Strike) → Has xs x → x.attr < 16
  struck_within x h =
      (open_state of x.symbol x.attr
      (strikes_open g d (IsOpen g (table_passes states)) [] xs good x.symbol x.attr (has_strikes xs x h))).0

  pub struck_at : (s a : ℕ) → IsStruckBy xs s a → IsStruckAt xs (slot_of s a)
  struck_at s a h = let o = strikes_has xs s a h in (o.0, o.1, cc (o.2, o.3))

  pub at_struck : (s a : ℕ) → a < 16 → IsStruckAt xs (slot_of s a) → IsStruckBy xs s a
  at_struck s a lt h =
      let e = slot_same h.0.symbol h.0.attr s a (struck_within h.0 h.1) lt h.2 in
      rw (← e.0, ← e.1) (has_strikes xs h.0 h.1)

  -- the strike of a dependency is good if the dependency bars its target from the pass, or if its argument is struck
  pub good_by : (u : Dependency) → Parts g u → IsBarred d states u ⊎ IsStruckAt xs u.argument
      → IsGood g d (IsOpen g (table_passes states)) xs u.strike
  good_by u p why =
      record {
        production = p.production;
        rule = p.rule;
        argument = p.argument;
        is_production = p.is_production;
        is_rule = p.is_rule;
        is_argument = p.is_argument;
        symbol = p.symbol;
        attr = p.attr;
        reason = reason;
      }
    where
      lt : p.argument.attr < 16
      lt = argument_within of.accepted p

      reason : IsReason d (IsOpen g (table_passes states)) xs p.production p.rule.target.place p.argument
      reason = elim why [
        | inl b ↦ inr (
          rw (p.place, p.from) at b.0,
          rw p.is_symbol (open_there of p.of p.argument.attr lt (rw p.at at b.1)),
        )
        | inr h ↦ inl (rw p.is_symbol (at_struck p.of p.argument.attr lt (rw p.at at h)))
      ]
