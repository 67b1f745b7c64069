-- An error that has a cause comes from an origin. So if a tree has no origin, no value of its solution is an error.
use Rattle.origins.proofs.Common
use Common.{ℕ, zero, suc, ◌≡◌, ◌<◌, inl, inr, Bool, true, cond, List, [], ◌∷◌, Option, Some, None, slice_get, arith, count_by}
use Common.{sum_by-cons, Rule, Grammar, Valuation, at, below, Tree, Table, is_arising, fault_of, HasOrigin, arising_at, child_of}
use Rattle.origins.specs.Causes.{IsRuleAt, here, passed, place_path, tree_at, values_at}
use Rattle.origins.specs.Laws.{CausesHaveOrigins, NoneIsClean}
use Rattle.origins.proofs.Caused.{Explained, errors_have_causes}
use Rattle.origins.proofs.Induction.{holds_by}

-- if the tree at the end of a path has at its root a rule in which an error arises, the path leads to an origin
origin_at : (g : Grammar) (path : List ℕ) (o : Option Tree) (v : Valuation) → 0 < arising_at g (tree_at o path) (values_at v path)
    → HasOrigin g path o v
origin_at g [] o v h = h
origin_at g (i ∷ path) o v h = origin_at g path (child_of o i) (below i v) h

-- a rule that passes a test is counted
count_some : (f : Rule → Bool) (rs : List Rule) (i : ℕ) (r : Rule) → slice_get rs i ≡ Some r → f r ≡ true → 0 < count_by f rs
count_some f [] i r e on = cc
count_some f (s ∷ rs) zero r e on =
    let same : s ≡ r = cc in
    let one : ◌≡◌ {A = ℕ} (cond (f s) 1 0) 1 = cc in
    let sum = sum_by-cons (λ x. cond (f x) 1 0) s rs in omega arith
count_some f (s ∷ rs) (suc i) r e on =
    let later = count_some f rs i r e on in
    let sum = sum_by-cons (λ x. cond (f x) 1 0) s rs in omega arith

rule_counted : (g : Grammar) (t : Tree) (v : Valuation) (path : List ℕ) (r : Rule) (e : Table) → IsRuleAt g t v path r e
    → is_arising e r ≡ true → HasOrigin g path (Some t) v
rule_counted g t v path r e is on =
    let values = at (values_at v path) in
    let here_on : is_arising values r ≡ true = cc in
    origin_at g path (Some t) v
    (rw (is.there, is.is) (count_some (is_arising values) is.of.rules is.rule.0 r is.rule.1 here_on))

-- at the end of a cause there is an origin
pub causes_have_origins : CausesHaveOrigins
causes_have_origins g t v path a (here at_path r e is on) = (at_path, rule_counted g t v at_path r e is on)
causes_have_origins g t v path a (passed at_path r e k o is source occurs cause) =
    causes_have_origins g t v (place_path at_path o.place) o.attr cause

pub none_is_clean : NoneIsClean
none_is_clean g m t v accepted legal fits solves first =
    holds_by {K = Unit {0}} (λ _ path ps. (a p : ℕ) → slice_get ps a ≡ Some p → Explained g t v path a)
    (λ path ps. (a p : ℕ) → slice_get ps a ≡ Some p → fault_of (values_at v path [] a) ≡ None) g m
    (λ path ps h a p e. elim (h tt a p e) [
      | inl clean ↦ clean
      | inr cause ↦ absurd
          (let origin = causes_have_origins g t v path a cause in first origin.0 origin.1)
    ]) t []
    (λ _. errors_have_causes g m t v accepted legal fits solves)
