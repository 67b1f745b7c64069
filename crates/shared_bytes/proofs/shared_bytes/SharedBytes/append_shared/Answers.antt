use Rattle.std.proofs.Common.{rules, ◌≡◌, ◌+◌, ◌++◌, ◌∷◌, [], List, ℕ, length, refl, sym, ap, subst, ◌∙◌, arith, zero-add}
use Rattle.shared_bytes.specs.Spliced.{AreSplices, spliced}
use Rattle.shared_bytes.specs.declared.splice.Splice.{Splice}
use Rattle.shared_bytes.proofs.Splicing.{splice_appended, splices_more, spliced_length}
use Rattle.shared_bytes.proofs.Bytes.{IsBytes, both_bytes}
use Rattle.shared_bytes.proofs.shared_bytes.SharedBytes.append_shared.Goals as goal

pub overflow_add-self : goal.overflow_add-self
overflow_add-self c =
    let own = c.self.inside.own.items in
    let splices = c.self.inside.splices.items in
    let e : 0 + length (spliced 0 own splices) ≡ c.self.inside.len =
    spliced_length 0 0 (length own) c.self.inside.len own splices c.self.invariant.0 (zero-add (length own)) in
    let same : length (spliced 0 own splices) ≡ length c.args.self.now = ap length c.self.view_is in
    omega arith

pub invariant_of-self-2 : goal.invariant_of-self-2
invariant_of-self-2 c =
    let own = c.self.inside.own.items in
    let splices = c.self.inside.splices.items in
    let g : Splice = record { own = c.len.result; at = c.self.inside.len; bytes = c.in_ok-share.field-0 } in
    let place : c.len.result ≡ length own = search rules in
    let pushed : c.push.new.self.items ≡ splices ++ g ∷ [] = c.in-Ok.ensures.items in
    let n : length c.in_ok-share.field-0 ≡ c.len-2.result = ap length c.in_ok-share.ensures ∙ sym c.len-2.ensures.len in
    let more : AreSplices 0 0 (length own) (c.self.inside.len + length c.in_ok-share.field-0) (splices ++ g ∷ []) =
    splices_more 0 0 (length own) c.self.inside.len splices g c.self.invariant.0 place refl in
    let same : spliced 0 own c.push.new.self.items ≡ spliced 0 own splices ++ c.in_ok-share.field-0 =
    ap (λ (gs : List Splice). spliced 0 own gs) pushed
    ∙ splice_appended 0 0 (length own) c.self.inside.len own splices g c.self.invariant.0 (zero-add (length own)) place in (
      subst (λ (gs : List Splice). AreSplices 0 0 (length own) (c.self.inside.len + c.len-2.result) gs) (sym pushed)
          (subst (λ (i : ℕ). AreSplices 0 0 (length own) (c.self.inside.len + i) (splices ++ g ∷ [])) n more),
      subst IsBytes (sym same)
          (both_bytes (spliced 0 own splices) c.in_ok-share.field-0 c.self.invariant.1
          (subst IsBytes (sym c.in_ok-share.ensures) c.len-2.ensures.bytes)),
    )

pub returns-clause-ok : goal.returns-clause-ok
returns-clause-ok c =
    let own = c.self.inside.own.items in
    let splices = c.self.inside.splices.items in
    let g : Splice = record { own = c.len.result; at = c.self.inside.len; bytes = c.in_ok-share.field-0 } in
    let place : c.len.result ≡ length own = search rules in
    let pushed : c.push.new.self.items ≡ splices ++ g ∷ [] = c.in-Ok.ensures.items in
    ap (λ (gs : List Splice). spliced 0 own gs) pushed
    ∙ (splice_appended 0 0 (length own) c.self.inside.len own splices g c.self.invariant.0 (zero-add (length own)) place
    ∙ (ap (λ (xs : List ℕ). xs ++ c.in_ok-share.field-0) c.self.view_is
    ∙ ap (λ (xs : List ℕ). c.args.self.now ++ xs) c.in_ok-share.ensures))
