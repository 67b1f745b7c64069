-- The target of a rule is not an argument of a rule, and no two rules have the same target.
use Rattle.passrun.proofs.Common
use Common.{ℕ, zero, suc, ◌≡◌, Some, slice_get, Production, Rule, Target, IsAccepted, Grammar, IsProduction, IsArgument, HasKind}
use Common.{defined_kind, used_kind}

module _ (g : Grammar) (accepted : IsAccepted g) (p : ℕ) (q : Production) (there : IsProduction g p q) where
  pub target_kind : (r : ℕ) (u : Rule) → slice_get q.rules r ≡ Some u → HasKind g q u.target (defined_kind u.target.place)
  target_kind r u is = (accepted.complete p q there).no_other r u is

  pub argument_kind : (r : ℕ) (u : Rule) (o : Target) → slice_get q.rules r ≡ Some u → IsArgument u o
      → HasKind g q o (used_kind o.place)
  argument_kind r u o is (m, at) = accepted.normal p q there r u is m o at

  pub one_rule : (r r' : ℕ) (u u' : Rule) → slice_get q.rules r ≡ Some u → slice_get q.rules r' ≡ Some u' → u.target ≡ u'.target
      → r ≡ r'
  one_rule r r' u u' is is' same = (accepted.complete p q there).single r r' u u' is is' same

  kinds_differ : (j : ℕ) → defined_kind j ≡ used_kind j → ⊥
  kinds_differ zero e = cc
  kinds_differ (suc j) e = cc

  pub no_argument : (r r' : ℕ) (u u' : Rule) (o : Target) → slice_get q.rules r ≡ Some u → slice_get q.rules r' ≡ Some u'
      → IsArgument u' o → o ≡ u.target → ⊥
  no_argument r r' u u' o is is' arg e =
      let k = target_kind r u is in
      let f = argument_kind r' u' o is' arg in
      let f2 : HasKind g q u.target (used_kind u.target.place) = rw e at f in
      let z : Some (defined_kind u.target.place) ≡ Some (used_kind u.target.place) = cc in
      let y : defined_kind u.target.place ≡ used_kind u.target.place = cc in
      kinds_differ u.target.place y
