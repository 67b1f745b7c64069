-- The invariant of the loop of `is_readable_text`.
use Rattle.normalform.proofs.Common.{◌≡◌, drop, not, list_all, is_separator}
use Rattle.normalform.proofs.faults.readable.is_readable_text.Given as goal

abbrev pub invariant-loop-byte : goal.invariant-loop-byte
invariant-loop-byte l =
    list_all (λ b. not (is_separator b)) (drop l.byte-index l.text) ≡ list_all (λ b. not (is_separator b)) l.text
