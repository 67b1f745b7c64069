-- The answers of calls of C: results and refusals. This project's.
use Rattle.std.specs.Prelude.{ℕ, ◌≡◌, ◌⊎◌, List, ◌++◌, Option, Some, None, length, take, drop, min}
use Rattle.ag_grammar.specs.grammars.AttributeGrammar.{Grammar}
use Rattle.llparse.specs.Ahead.{HasNoConflict}
use Rattle.passassign.specs.Least.{IsAlternating}
use Rattle.aggen.specs.Checking.{IsGrammarOf}
use Rattle.aggen.specs.Listing.{IsTranslatorFault}
use Rattle.ag_fault.specs.declared.fault.Fault.{Fault}
use Rattle.aggen_c.specs.Refusals.{HasReason, no_fields, numbers}
use Rattle.aggen_c.specs.declared.refusal.RefusalFields.{RefusalFields}

-- a buffer with the content `old` now begins with the first of `bytes`, as many as it has room for; the rest is as before
abbrev pub IsCopied : (bytes old new : List ℕ) → Type 0
IsCopied bytes old new = new ≡ take (min (length bytes) (length old)) bytes ++ drop (min (length bytes) (length old)) old

-- The buffer of a message has a message of `count` bytes, or as many of its first bytes as there is room for. A missing message
-- counts as the empty one, of length 0.
pub record HasMessage (old new : List ℕ) (count : ℕ) : Type 0 where
  pub message : List ℕ
  pub copied : IsCopied message old new
  pub counted : count ≡ length message

-- Bytes were copied to a buffer, with status 0, and `count` is the number of all these bytes, copied or not.
pub record IsWritten (bytes old new : List ℕ) (count status : ℕ) (fields : RefusalFields) : Type 0 where
  pub copied : IsCopied bytes old new
  pub counted : count ≡ length bytes
  pub zero : status ≡ 0
  pub none : fields ≡ no_fields

-- a buffer is as before, and the number of bytes of the result, `count`, is 0
abbrev pub IsUnwritten : (old new : List ℕ) → (count : ℕ) → Type 0
IsUnwritten old new count = (new ≡ old) × (count ≡ 0)

-- The result of a call, bytes with the property `Is`, was copied to a buffer, with status 0.
pub record IsAnswered (Is : List ℕ → Type 0) (old new : List ℕ) (count status : ℕ) (fields : RefusalFields) : Type 0 where
  pub bytes : List ℕ
  pub is : Is bytes
  pub written : IsWritten bytes old new count status fields

-- A call was refused for a true reason, a fault with the property `IsTrue`, and its buffer is as before.
pub record IsRefused (IsTrue : Fault → Type 0) (old new : List ℕ) (count status : ℕ) (fields : RefusalFields) : Type 0 where
  pub reason : HasReason IsTrue status fields
  pub unwritten : IsUnwritten old new count

-- The answer of a call on a handle, by the grammar of the handle's translator: a result with status 0, or a refusal with a true
-- reason. `Is g bytes` says that the bytes are a result, and `IsTrue g f` that the fault f is true of the input. If the handle
-- has no translator, the status is 1, and the refusal has no number and no offset.
abbrev pub Answers : (Is : Grammar → List ℕ → Type 0) → (IsTrue : Grammar → Fault → Type 0) → Option Grammar → (old new : List ℕ)
    → (count status : ℕ) → RefusalFields → Type 0
Answers Is IsTrue (Some g) old new count status fields =
    IsAnswered (Is g) old new count status fields ⊎ IsRefused (IsTrue g) old new count status fields
Answers Is IsTrue None old new count status fields = (numbers status fields ≡ numbers 1 no_fields) × IsUnwritten old new count

-- The grammar is that of a text, it has no conflict, and some assignment of passes to its attributes is legal.
pub record IsTranslatorOf (text : List ℕ) (g : Grammar) : Type 0 where
  pub is : IsGrammarOf text g
  pub free : HasNoConflict g
  pub alternating : IsAlternating g

-- What a handle has after `aggen_build_unchecked` with a text: the text's translator, and the status is 0; or none, and the
-- refusal has a true reason. The second argument is the grammar of the handle's translator, if it has one.
abbrev pub IsBuilt : (text : List ℕ) → Option Grammar → (status : ℕ) → RefusalFields → Type 0
IsBuilt text (Some g) status fields = IsTranslatorOf text g × (status ≡ 0) × (fields ≡ no_fields)
IsBuilt text None status fields = HasReason (IsTranslatorFault text) status fields
