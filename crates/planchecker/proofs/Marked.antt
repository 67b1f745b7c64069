-- Tables of marks.
use Rattle.planchecker.proofs.Common
use Common.{ℕ, ◌≡◌, ◌<◌, ◌⊎◌, ◌↔◌, Bool, true, false, List, length, inl, inr, sym, ◌∙◌, arith, cases_eq, cases_lt, false≢true}
use Common.{get_or_past, max_attributes, max_symbols, slot_same, IsMarked}
use Rattle.std.proofs.Math.ListN.{replicate, set, length-replicate, get_or-replicate}
use Rattle.std.proofs.lemmas.List.{get_or-set_same, get_or-set_other}
use Rattle.passassign.specs.Tables.{slot_of, is_marked}

pub none_marked : (n k : ℕ) → is_marked (replicate n false) k ≡ true → ⊥
none_marked n k e = elim (cases_lt k n) [
  | inl lt ↦ false≢true (sym (get_or-replicate n k false false lt) ∙ e)
  | inr le ↦ false≢true (sym (get_or_past (replicate n false) k false (rw (length-replicate n false) le)) ∙ e)
]

pub mark_more : (slots : List Bool) (symbol attr : ℕ) → symbol < max_symbols → attr < max_attributes
    → slot_of symbol attr < length slots → (s a : ℕ) → IsMarked (record { slots = set slots (slot_of symbol attr) true }) s a
    ↔ (IsMarked (record { slots = slots }) s a ⊎ ((symbol ≡ s) × (attr ≡ a)))
mark_more slots symbol attr ls la within s a = elim (cases_eq (slot_of s a) (slot_of symbol attr)) [
  | inl same ↦ (
      let hit : is_marked (set slots (slot_of symbol attr) true) (slot_of s a) ≡ true =
      rw same (get_or-set_same slots (slot_of symbol attr) true false within) in (
        (λ h. inr (slot_same symbol attr s a la h.1 (sym same))),
        (λ h. elim h [ inl m ↦ (m.0, m.1, hit) | inr e ↦ (rw (sym e.0) ls, rw (sym e.1) la, hit) ]),
      ))
  | inr other ↦ (
      let kept = get_or-set_other slots (slot_of symbol attr) (slot_of s a) true false other in (
        (λ h. inl (h.0, h.1, sym kept ∙ h.2)),
        (λ h. elim h [
          | inl m ↦ (m.0, m.1, kept ∙ m.2)
          | inr e ↦ absurd (let f = e.0 in let g = e.1 in other (omega arith))
        ]),
      ))
]
