-- From the result of a call, and what was written of it, to the answer that C gets.
use Rattle.std.proofs.Common.{◌≡◌, inl, inr, ℕ, List, Option, Some, None, Result, Ok, Err, sym, ◌∙◌, subst}
use Rattle.std.specs.Prelude.{IfErr, IfOk, IsSomeAnd, MatchOption, OnErr, OnOk}
use Rattle.ag_grammar.specs.grammars.AttributeGrammar.{Grammar}
use Rattle.ag_fault.specs.declared.fault.Fault.{Fault}
use Rattle.aggen.specs.Listing.{IsTranslatorFault}
use Rattle.aggen_c.specs.Answers.{Answers, IsBuilt, IsTranslatorOf, IsUnwritten, IsWritten}
use Rattle.aggen_c.specs.Refusals.{HasReason, no_fields, numbers}
use Rattle.aggen_c.specs.declared.refusal.RefusalFields.{RefusalFields}

-- a property P of the grammar g of a handle's translator; `value` is what contracts see of the handle
pub is_some : (P : Grammar → Type 0) (value : Option Grammar) (g : Grammar) → value ≡ Some g → P g → IsSomeAnd value P
is_some P value g same is = subst (λ (o : Option Grammar). IsSomeAnd o P) (sym same) is

-- The result of a call on the translator that a handle had. `value` is what contracts see of the handle, g the grammar of its
-- translator, and `lent` that of the translator in the call.
pub of_handle : (V E : Type 0) (P : Grammar → V → Type 0) (value : Option Grammar) (g lent : Grammar) (r : Result V E)
    → value ≡ Some g → lent ≡ g
    → IfOk r (P lent) → IfOk r (λ v. IsSomeAnd value (λ x. P x v))
of_handle V E P value g lent r same was held =
    subst (λ (o : Option Grammar). IfOk r (λ v. IsSomeAnd o (λ x. P x v))) (sym same)
    (subst (λ (x : Grammar). IfOk r (P x)) was held)

pub refused_of_handle : (V E : Type 0) (N : E → Type 0) (P : Grammar → E → Type 0) (value : Option Grammar) (g lent : Grammar)
    (r : Result V E)
    → value ≡ Some g → lent ≡ g → IfErr r (P lent) → IfErr r (λ e. MatchOption value (N e) (λ x. P x e))
refused_of_handle V E N P value g lent r same was held =
    subst (λ (o : Option Grammar). IfErr r (λ e. MatchOption o (N e) (λ x. P x e))) (sym same)
    (subst (λ (x : Grammar). IfErr r (P x)) was held)

-- a refusal with the same status and numbers as another has a reason that the other has
has_reason : (IsTrue : Fault → Type 0) (status was : ℕ) (fields were : RefusalFields) → numbers status fields ≡ numbers was were
    → HasReason IsTrue was were → HasReason IsTrue status fields
has_reason IsTrue status was fields were same it = record { reason = it.reason; is_true = it.is_true; same = same ∙ it.same }

-- `bytes_of`, `status_of` and `fields_of` get the bytes, the status and the fields from the result of a call
module _ (V E : Type 0) (bytes_of : V → List ℕ) (status_of : E → ℕ) (fields_of : E → RefusalFields) where
  pub answered : (Is : Grammar → List ℕ → Type 0) (IsTrue : Grammar → Fault → Type 0) (value : Option Grammar) (old new : List ℕ)
      (count status : ℕ) (fields : RefusalFields) (r : Result V E)
      → IfOk r (λ v. IsSomeAnd value (λ g. Is g (bytes_of v)))
      → IfErr r
      (λ e. MatchOption value (numbers (status_of e) (fields_of e) ≡ numbers 1 no_fields)
      (λ g. HasReason (IsTrue g) (status_of e) (fields_of e)))
      → IfOk r (λ v. IsWritten (bytes_of v) old new count status fields)
      → IfErr r (λ e. numbers status fields ≡ numbers (status_of e) (fields_of e))
      → IfErr r (λ e. IsUnwritten old new count)
      → Answers Is IsTrue value old new count status fields
  answered Is IsTrue (Some g) old new count status fields (Ok v) is refused written same kept =
      inl (record { bytes = bytes_of v; is = is; written = written })
  answered Is IsTrue (Some g) old new count status fields (Err e) is refused written same kept =
      inr (record { reason = has_reason (IsTrue g) status (status_of e) fields (fields_of e) same refused; unwritten = kept })
  answered Is IsTrue None old new count status fields (Ok v) is refused written same kept = absurd is
  answered Is IsTrue None old new count status fields (Err e) is refused written same kept = (same ∙ refused, kept)

module _ (E : Type 0) (status_of : E → ℕ) (fields_of : E → RefusalFields) where
  pub built : (text : List ℕ) (value : Option Grammar) (status : ℕ) (fields : RefusalFields) (r : Result (Unit {0}) E)
      → OnOk r (IsSomeAnd value (IsTranslatorOf text)) → OnErr r (value ≡ None)
      → IfErr r (λ e. HasReason (IsTranslatorFault text) (status_of e) (fields_of e))
      → OnOk r ((status ≡ 0) × (fields ≡ no_fields))
      → IfErr r (λ e. numbers status fields ≡ numbers (status_of e) (fields_of e))
      → IsBuilt text value status fields
  built text (Some g) status fields (Ok u) is emptied refused zero same = (is, zero.0, zero.1)
  built text None status fields (Ok u) is emptied refused zero same = absurd is
  built text value status fields (Err e) is emptied refused zero same =
      subst (λ (x : Option Grammar). IsBuilt text x status fields) (sym emptied)
      (has_reason (IsTranslatorFault text) status (status_of e) fields (fields_of e) same refused)
