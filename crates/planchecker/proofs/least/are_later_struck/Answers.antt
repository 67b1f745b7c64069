use Rattle.planchecker.proofs.Common
use Common.{◌≡◌, inl, inr, [], Some, ◌∙◌, sym, length, slice_get, subst, arith, ℕ, cases_lt, get_or_past, slice_get-get_or}
use Common.{numbers_of}
use Rattle.passassign.proofs.slots.Lists.{length_rows, row_of}
use Rattle.planchecker.proofs.Checked.{items_at}
use Rattle.planchecker.proofs.Loops.{prefix_more, prefix_whole, is_no, is_yes, says_no, says_yes}
use Rattle.planchecker.proofs.least.are_later_struck.Goals as goal

pub loop-symbol-preserved : goal.loop-symbol-preserved
loop-symbol-preserved c =
    prefix_more _ _ _ _
    (items_at c.args.rows.now _ _ _ c.loop-symbol-test.true c.index-rows-symbol.is c.as_slice.ensures.value)
    c.loop-symbol.invariant (is_yes c.if-not-is_row_struck.ensures)

pub returns : goal.returns
returns c =
    let rows = numbers_of c.args.rows.now in
    let len = length_rows c.args.rows.now in
    says_yes (λ s a i. elim (cases_lt s (length rows)) [
      | inl lt ↦ prefix_whole _ _ _ (omega (arith, len, c.loop-symbol-test.false)) c.loop-symbol.invariant s _
          (slice_get-get_or rows s [] lt) a i.0 i.1 i.2
      | inr le ↦ absurd (let bad : slice_get {X = ℕ} [] a ≡ Some i.0 = rw (get_or_past rows s [] le) at i.1 in let worse : ⊥ = cc
          in worse)
    ])

pub returns-then-not-is_row_struck : goal.returns-then-not-is_row_struck
returns-then-not-is_row_struck c =
    let is = row_of c.args.rows.now _ c.index-rows-symbol.result c.loop-symbol-test.true c.index-rows-symbol.is
    ∙ sym c.as_slice.ensures.value in
    says_no (λ h. is_no c.if-not-is_row_struck.ensures
    (λ a p e lt. h _ a (p, subst (λ r. slice_get r a ≡ Some p) (sym is) e, lt)))
