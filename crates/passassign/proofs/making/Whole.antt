-- Assignments of all attributes, and grammars that have no legal one.
use Rattle.passassign.proofs.Common
use Common.{ℕ, zero, suc, ◌≡◌, ◌↔◌, inl, inr, List, [], ◌∷◌, Option, Some, None, slice_get, length, refl, sym, Each, Item}
use Common.{Production, Literal, Class, Grammar, item_at, defined_kind, IsProduction, symbol_kinds, IsComplete, IsNormal}
use Common.{Direction, RightToLeft, Passes, IsLegalFor, IsLegal, counterpart, Strike, Stuck, Attributes, Members, IsStruckBy}
use Common.{AreGood, IsCertificate, Partial, partial_of, pass_at, HasPassIn, IsAttribute, IsLegalPartial, IsStuck, IsLeast}
use Common.{IsAlternating, IsMade, AreIdle}
use Common.item
use Rattle.ag_grammar.specs.grammars.Passes.{item_passes, HasPass}
use Rattle.passassign.proofs.making.Made.{made_at_most}
use Rattle.passassign.proofs.making.Legal.{made_legal}
use Rattle.passassign.proofs.making.Rest.{members_stuck, rest_stuck}

same_pass : (n : Partial) (m : Passes) → ((s a : ℕ) → partial_of m s a ≡ n s a) → (x : Option Item) (a : ℕ)
    → pass_at n x a ≡ slice_get (item_passes m x) a
same_pass n m h None zero = refl
same_pass n m h None (suc a) = refl
same_pass n m h (Some (item.Symbol s)) a = sym (h s a)
same_pass n m h (Some (item.Terminal (Class c))) a = refl
same_pass n m h (Some (item.Terminal (Literal l))) zero = refl
same_pass n m h (Some (item.Terminal (Literal l))) (suc a) = refl

pub partial_legal : (g : Grammar) (m : Passes) → IsLegal g m → IsLegalPartial g (partial_of m)
partial_legal g m legal = record { known = known; positive = λ s a p e. legal.positive s a p e; allowed = allowed }
  where
    same : (x : Option Item) (a : ℕ) → pass_at (partial_of m) x a ≡ slice_get (item_passes m x) a
    same = same_pass (partial_of m) m (λ s a. refl)

    known : (s a p : ℕ) → partial_of m s a ≡ Some p → IsAttribute g s a
    known s a p e = counterpart (m s) (symbol_kinds (slice_get g.symbols s)) a p (legal.whole s) e

    allowed : (i : ℕ) (q : Production) → IsProduction g i q → IsLegalFor (HasPassIn (partial_of m)) q
    allowed i q get r o k rule arg has =
        let l = legal.allowed i q get r o k rule arg (cc (same (item_at q r.target.place) r.target.attr)) in
        (l.0, cc (l.1, same (item_at q o.place) o.attr), l.2)

pub whole_least : (g : Grammar) (k : ℕ) (n : Partial) (m : Passes) → Each (IsComplete g) g.productions
    → Each (IsNormal g) g.productions → IsMade g k n → ((s : ℕ) → length (m s) ≡ length (symbol_kinds (slice_get g.symbols s)))
    → ((s a : ℕ) → partial_of m s a ≡ n s a)
    → IsLeast g m
whole_least g k n m complete normal made whole is =
    record {
      legal = record { whole = whole; positive = λ s a p e. legal.positive s a p (cc (is s a)); allowed = allowed };
      least =
          λ other h s a p q e f. made_at_most g k n (partial_of other) made (partial_legal g other h) s a p q
          (cc (is s a)) f;
    }
  where
    legal : IsLegalPartial g n
    legal = made_legal g k n complete normal made

    same : (x : Option Item) (a : ℕ) → pass_at n x a ≡ slice_get (item_passes m x) a
    same = same_pass n m is

    allowed : (i : ℕ) (q : Production) → IsProduction g i q → IsLegalFor (HasPass m) q
    allowed i q get r o k rule arg has =
        let l = legal.allowed i q get r o k rule arg (cc (same (item_at q r.target.place) r.target.attr)) in
        (l.0, cc (l.1, same (item_at q o.place) o.attr), l.2)

pub stuck_refused : (g : Grammar) (s a : ℕ) → IsAttribute g s a → IsStuck g s a → IsAlternating g → ⊥
stuck_refused g s a is stuck (m, legal) =
    let c = counterpart (symbol_kinds (slice_get g.symbols s)) (m s) a is.0 (sym (legal.whole s)) is.1 in
    cc (c.1, stuck (partial_of m) (partial_legal g m legal))

-- what good strikes strike are attributes, since a complete production has only rules of attributes
module _ (g : Grammar) (complete : Each (IsComplete g) g.productions) (d : Direction) (candidate : Attributes) where
  struck_known : (struck xs : List Strike) → AreGood g d candidate struck xs → (s a : ℕ) → IsStruckBy xs s a → IsAttribute g s a
  struck_known struck [] good s a hit = absurd hit
  struck_known struck (x ∷ xs) (is, new, one, more) s a (inl (u, b)) = (
    defined_kind one.rule.target.place,
    rw (one.symbol, one.attr, u, b) at
        ((complete x.production one.production one.is_production).no_other x.rule one.rule one.is_rule),
  )
  struck_known struck (x ∷ xs) (is, new, one, more) s a (inr h) = struck_known (x ∷ struck) xs more s a h

pub certified_refused : (g : Grammar) (c : Stuck) → Each (IsComplete g) g.productions → IsCertificate g c → IsAlternating g → ⊥
certified_refused g c complete is =
    let x = is.some.0 in
    stuck_refused g x.0 x.1
    (struck_known g complete RightToLeft (Members c.set) [] c.odd is.odd.good x.0 x.1 (is.odd.all x.0 x.1 is.some.1))
    (members_stuck g c is x.0 x.1 is.some.1)

pub stuck_left : (g : Grammar) (k : ℕ) (m : Partial) (first second : List Strike) → Each (IsComplete g) g.productions
    → Each (IsNormal g) g.productions → IsMade g k m → AreIdle g k m first second → (s a : ℕ) → IsAttribute g s a
    → (m s a ≡ None) ↔ IsStuck g s a
stuck_left g k m first second complete normal made h s a is =
    (λ none. rest_stuck g k m first second h s a (is, none), λ stuck. stuck m (made_legal g k m complete normal made))
