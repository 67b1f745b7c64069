use Rattle.std.proofs.Common.{◌≡◌, ◌+◌, ◌++◌, List, ℕ, length, sym, ap, subst, ◌∙◌, arith, zero-add, length-append}
use Rattle.shared_bytes.specs.Spliced.{AreSplices, spliced}
use Rattle.shared_bytes.proofs.Splicing.{bytes_appended, splices_kept, spliced_length}
use Rattle.shared_bytes.proofs.Bytes.{IsBytes, both_bytes}
use Rattle.shared_bytes.proofs.shared_bytes.SharedBytes.append_own.Goals as goal

pub overflow_add-self : goal.overflow_add-self
overflow_add-self c =
    let own = c.self.inside.own.items in
    let splices = c.self.inside.splices.items in
    let e : 0 + length (spliced 0 own splices) ≡ c.self.inside.len =
    spliced_length 0 0 (length own) c.self.inside.len own splices c.self.invariant.0 (zero-add (length own)) in
    let same : length (spliced 0 own splices) ≡ length c.args.self.now = ap length c.self.view_is in
    omega arith

pub invariant_of-self-2 : goal.invariant_of-self-2
invariant_of-self-2 c =
    let own = c.self.inside.own.items in
    let splices = c.self.inside.splices.items in
    let count = length c.args.bytes.now in
    let e : length c.extend_from_slice.new.self.items ≡ length own + count =
    ap length c.in_ok-extend_from_slice.ensures.items ∙ length-append own c.args.bytes.now in
    let same : spliced 0 c.extend_from_slice.new.self.items splices ≡ spliced 0 own splices ++ c.args.bytes.now =
    ap (λ (xs : List ℕ). spliced 0 xs splices) c.in_ok-extend_from_slice.ensures.items
    ∙ bytes_appended 0 0 (length own) c.self.inside.len own c.args.bytes.now splices c.self.invariant.0
    (zero-add (length own)) in (
      subst (λ (n : ℕ). AreSplices 0 0 n (c.self.inside.len + count) splices) (sym e)
          (splices_kept 0 0 (length own) c.self.inside.len count splices c.self.invariant.0),
      subst IsBytes (sym same)
          (both_bytes (spliced 0 own splices) c.args.bytes.now c.self.invariant.1 (λ i. omega (arith, c.type_inv.bytes i))),
    )

pub returns-clause-ok : goal.returns-clause-ok
returns-clause-ok c =
    let own = c.self.inside.own.items in
    let splices = c.self.inside.splices.items in
    ap (λ (xs : List ℕ). spliced 0 xs splices) c.in_ok-extend_from_slice.ensures.items
    ∙ (bytes_appended 0 0 (length own) c.self.inside.len own c.args.bytes.now splices c.self.invariant.0 (zero-add (length own))
    ∙ ap (λ (xs : List ℕ). xs ++ c.args.bytes.now) c.self.view_is)
