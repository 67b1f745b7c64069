use Rattle.passassign.proofs.Common.{arith}
use Rattle.passassign.proofs.making.Refusing.{refused}
use Rattle.passassign.proofs.making.SoFar.{last_in_use, so_far_next}
use Rattle.passassign.proofs.assigning.advance.Goals as goal

pub returns-clause-refused : goal.returns-clause-refused
returns-clause-refused c = λ g p.
    let one = c.in_ok-first.ensures.made g p in
    let two = c.in_ok-second.ensures.made g one.progress in
    let counted = rw c.as_slice-2.ensures.value at c.count_open-left-2.ensures in
    refused one two p c.in_ok-first.ensures.next c.in_ok-second.ensures.next
    (omega (arith, c.in_ok-first.ensures.len, c.in_ok-second.ensures.len))
    (λ k o. c.in_ok-first.ensures.left k (c.in_ok-second.ensures.left k o)) (omega arith) c.in_ok-certificate_of.field-0
    c.in_ok-certificate_of.ensures.strikes c.in_ok-certificate_of.ensures.all c.in_ok-certificate_of.ensures.ordered
    (omega arith)

pub returns-then-left-open_before-clause-last : goal.returns-then-left-open_before-clause-last
returns-then-left-open_before-clause-last c = λ g p.
    let counted = rw c.as_slice.ensures.value at c.count_open-left.ensures in
    last_in_use p (c.in_ok-first.ensures.made g p) c.in_ok-first.ensures.len c.in_ok-first.ensures.next (omega arith)

pub returns-then-left-open_before-clause-kept : goal.returns-then-left-open_before-clause-kept
returns-then-left-open_before-clause-kept c = λ g p wanted h.
    so_far_next p (c.in_ok-first.ensures.made g p) c.in_ok-first.ensures.next (c.in_ok-keep.ensures.kept wanted) h

pub returns-then-left-open_before-2-clause-last : goal.returns-then-left-open_before-2-clause-last
returns-then-left-open_before-2-clause-last c = λ g p.
    let one = c.in_ok-first.ensures.made g p in
    let first = rw c.as_slice.ensures.value at c.count_open-left.ensures in
    let second = rw c.as_slice-2.ensures.value at c.count_open-left-2.ensures in
    last_in_use one.progress (c.in_ok-second.ensures.made g one.progress) c.in_ok-second.ensures.len c.in_ok-second.ensures.next
    (omega arith)

pub returns-then-left-open_before-2-clause-kept : goal.returns-then-left-open_before-2-clause-kept
returns-then-left-open_before-2-clause-kept c = λ g p wanted h.
    let one = c.in_ok-first.ensures.made g p in
    so_far_next one.progress (c.in_ok-second.ensures.made g one.progress) c.in_ok-second.ensures.next
    (c.in_ok-keep-3.ensures.kept (rw c.in_ok-keep-2.ensures.wanted wanted))
    (so_far_next p one c.in_ok-first.ensures.next (c.in_ok-keep-2.ensures.kept wanted) h)
