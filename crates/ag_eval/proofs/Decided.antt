-- The decision of a condition agrees with the choice by it.
use Rattle.ag_eval.proofs.Common
use Common.{◌≡◌, zero, suc, pos, negsuc, Bool, cond, Result, refl, subst, sym, MatchResult, ErrorCode, Value, out-Value, Value-F}
use Common.value
use Rattle.ag_grammar.specs.values.Calls.{choice_of, chosen_at}
use Rattle.ag_eval.specs.Conditions.{decision, decision_at}

module _ (e f : Value) where
  chooses_at : (x : Value-F Value)
      → MatchResult (decision_at x) (λ holds. chosen_at x e f ≡ cond holds e f) (λ code. chosen_at x e f ≡ value.Fault code)
  chooses_at (Value-F.Num (pos zero)) = refl
  chooses_at (Value-F.Num (pos (suc n))) = refl
  chooses_at (Value-F.Num (negsuc n)) = refl
  chooses_at (Value-F.Text text) = refl
  chooses_at (Value-F.List items) = refl
  chooses_at (Value-F.Table pairs) = refl
  chooses_at (Value-F.Fault code) = refl

  pub chooses : (c : Value) (r : Result Bool ErrorCode) → r ≡ decision c
      → MatchResult r (λ holds. choice_of c e f ≡ cond holds e f) (λ code. choice_of c e f ≡ value.Fault code)
  chooses c r is =
      subst (λ (r : Result Bool ErrorCode).
      MatchResult r (λ holds. choice_of c e f ≡ cond holds e f) (λ code. choice_of c e f ≡ value.Fault code)) (sym is)
      (chooses_at (out-Value c))
