-- Refusals as C gets them. This project's.
use Rattle.std.specs.Prelude.{ℕ, ◌≡◌}
use Rattle.ag_fault.specs.Status.{status_of}
use Rattle.ag_fault.specs.declared.fault.Fault.{Fault}
use Rattle.aggen_c.specs.Numbers.{no_offset, number_of, offset_of}
use Rattle.aggen_c.specs.declared.refusal.RefusalFields.{RefusalFields}

-- the fields of a call that was not refused
abbrev pub no_fields : RefusalFields
no_fields = record { letter = 0; index = 0; offset = no_offset; line = 0; column = 0; message_length = 0 }

-- the status of a refusal, the letter of its number, the rest of the number, and the offset
abbrev pub numbers : (status : ℕ) → RefusalFields → ℕ × ℕ × ℕ × ℕ
numbers status fields = (status, fields.letter, fields.index, fields.offset)

-- the same four numbers of a fault
abbrev pub numbers_of : Fault → ℕ × ℕ × ℕ × ℕ
numbers_of e = (status_of e, (number_of e).letter, (number_of e).index, offset_of e)

-- A refusal has the status, the number and the offset of a true reason: of a fault with the property `IsTrue`.
pub record HasReason (IsTrue : Fault → Type 0) (status : ℕ) (fields : RefusalFields) : Type 0 where
  pub reason : Fault
  pub is_true : IsTrue reason
  pub same : numbers status fields ≡ numbers_of reason
