use Rattle.std.proofs.Common.{rules, ◌≡◌, ◌+◌, ◌++◌, List, ℕ, length, map, sym, ap, subst, ◌∙◌, arith, zero-add, length-append}
use Rattle.shared_bytes.specs.Spliced.{AreSplices, shift, spliced}
use Rattle.shared_bytes.specs.declared.splice.Splice.{Splice}
use Rattle.shared_bytes.proofs.Splicing.{splices_joined, all_appended, spliced_length}
use Rattle.shared_bytes.proofs.Bytes.{IsBytes, both_bytes}
use Rattle.shared_bytes.proofs.shared_bytes.SharedBytes.append_counted.Goals as goal

pub overflow_add-self : goal.overflow_add-self
overflow_add-self c =
    let own = c.self.inside.own.items in
    let splices = c.self.inside.splices.items in
    let more = c.other.inside.own.items in
    let others = c.other.inside.splices.items in
    let e : 0 + length (spliced 0 own splices) ≡ c.self.inside.len =
    spliced_length 0 0 (length own) c.self.inside.len own splices c.self.invariant.0 (zero-add (length own)) in
    let same : length (spliced 0 own splices) ≡ length c.args.self.now = ap length c.self.view_is in
    let f : 0 + length (spliced 0 more others) ≡ c.other.inside.len =
    spliced_length 0 0 (length more) c.other.inside.len more others c.other.invariant.0 (zero-add (length more)) in
    let same' : length (spliced 0 more others) ≡ length c.args.other.now = ap length c.other.view_is in
    omega (arith, c.requires)

pub invariant_of-self-2 : goal.invariant_of-self-2
invariant_of-self-2 c =
    let own = c.self.inside.own.items in
    let splices = c.self.inside.splices.items in
    let more = c.other.inside.own.items in
    let others = c.other.inside.splices.items in
    let count : c.len-count.result ≡ length own = search rules in
    let bytes : c.extend_from_slice.new.self.items ≡ own ++ more = search rules in
    let moved : c.in_ok-moved.moved.items ≡ map (shift (length own) c.self.inside.len) others = search rules in
    let pushed : c.append.new.self.items ≡ splices ++ map (shift (length own) c.self.inside.len) others = search rules in
    let n : length c.extend_from_slice.new.self.items ≡ length own + length more = ap length bytes ∙ length-append own more in
    let e : spliced 0 (own ++ more) (splices ++ map (shift (length own) c.self.inside.len) others) ≡ spliced 0 own splices
    ++ spliced 0 more others =
    all_appended 0 0 (length own) c.self.inside.len own more splices others c.self.invariant.0 (zero-add (length own)) in
    let same : spliced 0 c.extend_from_slice.new.self.items c.append.new.self.items ≡ spliced 0 own splices
    ++ spliced 0 more others = cc (e, bytes, pushed) in (
      subst (λ (k : ℕ). AreSplices 0 0 k (c.self.inside.len + c.other.inside.len) c.append.new.self.items) (sym n)
          (subst (λ (gs : List Splice). AreSplices 0 0 (length own + length more) (c.self.inside.len + c.other.inside.len) gs)
          (sym pushed)
          (splices_joined 0 0 (length own) c.self.inside.len
          (length more) c.other.inside.len splices others c.self.invariant.0 c.other.invariant.0)),
      subst IsBytes (sym same)
          (both_bytes (spliced 0 own splices) (spliced 0 more others) c.self.invariant.1 c.other.invariant.1),
    )

pub returns-clause-ok : goal.returns-clause-ok
returns-clause-ok c =
    let own = c.self.inside.own.items in
    let splices = c.self.inside.splices.items in
    let more = c.other.inside.own.items in
    let others = c.other.inside.splices.items in
    let bytes : c.extend_from_slice.new.self.items ≡ own ++ more = search rules in
    let moved : c.in_ok-moved.moved.items ≡ map (shift (length own) c.self.inside.len) others = search rules in
    let pushed : c.append.new.self.items ≡ splices ++ map (shift (length own) c.self.inside.len) others = search rules in
    let e : spliced 0 (own ++ more) (splices ++ map (shift (length own) c.self.inside.len) others) ≡ spliced 0 own splices
    ++ spliced 0 more others =
    all_appended 0 0 (length own) c.self.inside.len own more splices others c.self.invariant.0 (zero-add (length own)) in
    cc (e, bytes, pushed, c.self.view_is, c.other.view_is)
