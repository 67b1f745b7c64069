-- Which argument passes an error on to a rule.
use Rattle.origins.proofs.Common
use Common.{ℕ, suc, ◌≡◌, ◌+◌, true, false, Option, Some, None, refl, arith, cases_Bool, ErrorCode, Rule, fault_of, has_fault}
use Common.{Table, environment}
use Rattle.std.proofs.Common.{inl, inr}
use Rattle.origins.specs.Causes.{is_still}
use Rattle.origins.proofs.Caused.{not_clean}

-- if argument k is not an error, the rule still has the same error with the errors of one argument more exchanged
pub still_clean : (r : Rule) (e : Table) (k : ℕ) → is_still r e k ≡ true → has_fault (fault_of (environment r e k)) ≡ false
    → true ≡ is_still r e (k + 1)
still_clean r e k on clean = by_code (fault_of (environment r e k)) refl
  where
    next : suc k ≡ k + 1
    next = omega arith

    by_code : (c : Option ErrorCode) → fault_of (environment r e k) ≡ c → true ≡ is_still r e (k + 1)
    by_code None is =
        elim (cases_Bool (is_still r e (suc k)))
        [ inl yet ↦ cc next | inr no_more ↦ absurd (not_clean r e k on no_more is) ]
    by_code (Some c) is = cc
