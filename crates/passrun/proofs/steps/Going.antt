-- Entering a child.
use Rattle.passrun.proofs.Common
use Common.{ℕ, ◌≡◌, ◌-◌, ◌≤◌, List, [], ◌∷◌, ◌++◌, Some, length, reverse, ap, arith, length-append, reverse-append, Value}
use Common.{Production, IsProduction, Setting, IsSound, OpenNode, first_at, left_at, IsConsistent, ContinuesAs, stored}
use Common.{stored_width, ◌<◌, ◌+◌, ◌∙◌, sym, length-reverse, reverse-reverse, Expects, max_depth}
use Common.instr
use Rattle.passcode.specs.Course.{place_of}
use Rattle.passrun.specs.passing.OpenNodes.{end_of}
use Rattle.passrun.proofs.steps.Paths.{end_is}
use Rattle.passrun.proofs.places.Slots.{length_stored}
use Rattle.passrun.proofs.steps.Steps.{IsNext, at_go, step_go}

-- The row of the child whose record was read is the last one.
pub record HasChild (c : Setting) (p : ℕ) (values : List Value) : Type 0 where
  pub production : Production
  pub there : IsProduction c.grammar p production
  pub width : stored_width c production ≤ length values

pub child_of : {c : Setting} (root : ℕ) {x : OpenNode} (xs : List OpenNode) {values : List Value} {j : ℕ}
    → IsNext c x (instr.Go j) → IsConsistent c root (x ∷ xs) values → HasChild c x.child values
child_of {c} root xs at (t, now, todo, (entry, waits, ph, here)) =
    let o = at_go here at in
    let q = o.production in
    let g = o.current.0 in
    let row = stored c g.production (o.table (place_of q c.write o.i)) o.of_child in
    let n = length_stored c g.production (o.table (place_of q c.write o.i)) o.of_child in
    let m = ap length o.current.2 in
    let a = length-append entry.under (stored c q (o.table 0) o.copied ++ o.row) in
    let b = length-append (stored c q (o.table 0) o.copied) o.row in
    let e = ap length o.values_are in
    record { production = g.production; there = g.there; width = omega arith }

-- A node that enters a child continues the path of the nodes that wait, and there is room for it.
pub continues : {c : Setting} (root : ℕ) {x : OpenNode} (nodes : List OpenNode) {values : List Value} {j : ℕ}
    → IsNext c x (instr.Go j) → IsConsistent c root (x ∷ reverse nodes) values
    → (x.production ≡ end_of root nodes) × (length nodes + 1 < max_depth)
continues {c} root {x} nodes at (t, now, todo, (entry, waits, ph, here)) = (
  ends (reverse nodes) waits ∙ ap (end_of root) (reverse-reverse nodes),
  omega (arith, (at_go here at).current.0.deep, length-reverse nodes),
)
  where
    ends : (xs : List OpenNode) → Expects c root xs x.production entry → x.production ≡ end_of root (reverse xs)
    ends [] is_root = is_root.1
    ends (y ∷ ys) (outer, waits, z) = sym z.number ∙ sym (end_is root y ys)

pub goes : {c : Setting} (root : ℕ) → IsSound c → (x : OpenNode) (old new : List OpenNode) (values : List Value) (j width : ℕ)
    → IsNext c x (instr.Go j)
    → ((q : Production) → IsProduction c.grammar x.child q → width ≡ stored_width c q) → new ≡ old ++ left_at x j ∷ []
    → ContinuesAs c root (x ∷ reverse old) values (first_at x.child (length values - width) ∷ reverse new) values
goes {c} root sound x old new values j width at is pushed t now todo h =
    let child = child_of root (reverse old) at (t, now, todo, h) in
    rw (pushed, reverse-append old (left_at x j ∷ []))
    (step_go sound root (reverse old) at (λ q there.
    let same : Some child.production ≡ Some q = cc there in
    let one : child.production ≡ q = cc in
    omega (arith, is q there, rw one at child.width)) h)
