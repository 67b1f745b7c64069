use Rattle.std.proofs.Common.{◌≡◌, ◌≤◌, ◌+◌, ◌-◌, ◌∷◌, ◌++◌, [], List, ℕ, length, take, drop, refl, sym, ap, subst, ◌∙◌, arith}
use Rattle.std.proofs.lemmas.List.{drop_more, drop_all, length-drop, length-take-le, take_all, append-nil}
use Rattle.shared_bytes.specs.Reads.{HasRead}
use Rattle.shared_bytes.specs.Spliced.{AreSplices, spliced}
use Rattle.shared_bytes.specs.declared.splice.Splice.{Splice}
use Rattle.shared_bytes.proofs.Reading.{all_read, none_at_first, turn}
use Rattle.shared_bytes.proofs.Splicing.{spliced_length, splices_within}
use Rattle.shared_bytes.proofs.body.Body.copy_from.Goals as goal

pub loop-splice-init : goal.loop-splice-init
loop-splice-init c =
    let i = c.self.inside in
    let size : i.at + length (spliced i.base i.own.now i.splices.now) ≡ i.end =
    spliced_length i.base i.at (i.base + length i.own.now) i.end i.own.now i.splices.now c.self.invariant.0 refl in
    let own : i.base + 0 ≡ i.base = omega arith in
    let at : i.at + 0 ≡ i.at = omega arith in
    let whole : AreSplices i.base i.at (i.base + length i.own.now)
    (i.at + length (spliced i.base i.own.now i.splices.now)) i.splices.now =
    subst (λ (n : ℕ). AreSplices i.base i.at (i.base + length i.own.now) n i.splices.now) (sym size) c.self.invariant.0 in
    record {
      read = none_at_first c.args.offset (spliced i.base i.own.now i.splices.now) c.args.out.now;
      rest = ap (λ (n : ℕ). spliced n i.own.now i.splices.now) (sym own);
      splices =
          subst
          (λ (n : ℕ). AreSplices n (i.at + 0) (i.base + length i.own.now)
          (i.at + length (spliced i.base i.own.now i.splices.now)) i.splices.now) (sym own)
          (subst
          (λ (n : ℕ). AreSplices i.base n (i.base + length i.own.now)
          (i.at + length (spliced i.base i.own.now i.splices.now)) i.splices.now) (sym at) whole);
    }

pub copy_own-done-requires-clause-room : goal.copy_own-done-requires-clause-room
copy_own-done-requires-clause-room c =
    let i = c.self.inside in
    let size : i.at + length (spliced i.base i.own.now i.splices.now) ≡ i.end =
    spliced_length i.base i.at (i.base + length i.own.now) i.end i.own.now i.splices.now c.self.invariant.0 refl in
    let same : length (spliced i.base i.own.now i.splices.now) ≡ length c.args.self.now = ap length c.self.view_is in
    omega (arith, c.requires, c.loop-splice.auto.out, c.self.ranges.1.1.1.1.0.1)

pub copy_shared-done-requires-clause-room : goal.copy_shared-done-requires-clause-room
copy_shared-done-requires-clause-room c =
    let i = c.self.inside in
    let size : i.at + length (spliced i.base i.own.now i.splices.now) ≡ i.end =
    spliced_length i.base i.at (i.base + length i.own.now) i.end i.own.now i.splices.now c.self.invariant.0 refl in
    let same : length (spliced i.base i.own.now i.splices.now) ≡ length c.args.self.now = ap length c.self.view_is in
    omega (arith, c.requires, c.loop-splice.auto.out, c.copy_own-done.auto.out, c.self.ranges.1.1.1.1.0.1)

pub overflow_add-place : goal.overflow_add-place
overflow_add-place c =
    let i = c.self.inside in
    let l = c.loop-splice in
    let g = c.splice-item.result in
    let content = spliced i.base i.own.now i.splices.now in
    let rest = drop (l.splice-index + 1) i.splices.now in
    let total = i.at + length content in
    let size : total ≡ i.end =
    spliced_length i.base i.at (i.base + length i.own.now) i.end i.own.now i.splices.now c.self.invariant.0 refl in
    let e : drop l.splice-index i.splices.now ≡ g ∷ rest =
    drop_more i.splices.now l.splice-index g c.loop-splice-test.true ∙ ap (λ (x : Splice). x ∷ rest) (sym c.splice-item.is) in
    let h =
    subst (λ (xs : List Splice). AreSplices (i.base + l.from) (i.at + l.place) (i.base + length i.own.now) total xs) e
    l.invariant.splices in
    let far : g.at + length g.bytes ≤ total =
    splices_within g.own (g.at + length g.bytes) (i.base + length i.own.now) total rest h.3 in
    omega (arith, c.len.ensures.len, c.self.ranges.1.1.1.1.0.1)

pub loop-splice-preserved : goal.loop-splice-preserved
loop-splice-preserved c =
    let i = c.self.inside in
    let l = c.loop-splice in
    let g = c.splice-item.result in
    let content = spliced i.base i.own.now i.splices.now in
    let rest = drop (l.splice-index + 1) i.splices.now in
    let total = i.at + length content in
    let e : drop l.splice-index i.splices.now ≡ g ∷ rest =
    drop_more i.splices.now l.splice-index g c.loop-splice-test.true ∙ ap (λ (x : Splice). x ∷ rest) (sym c.splice-item.is) in
    let h =
    subst (λ (xs : List Splice). AreSplices (i.base + l.from) (i.at + l.place) (i.base + length i.own.now) total xs) e
    l.invariant.splices in
    let t =
    turn i.base i.at l.from l.place total i.own.now content
    (drop l.splice-index i.splices.now) g rest e l.invariant.splices l.invariant.rest in
    let first = c.copy_own-done.ensures.read content _ t.own_part l.invariant.read in
    let second = c.copy_shared-done.ensures.read content _ t.splice_part
    (subst (λ (n : ℕ). HasRead n c.args.offset c.copy_own-done.result content c.copy_own-done.new.out) t.splice_at first) in
    let own : i.base + (g.own - i.base) ≡ g.own = omega (arith, t.from_here) in
    let at : i.at + (g.at - i.at + length g.bytes) ≡ g.at + length g.bytes = omega (arith, t.at_here) in
    let following : drop (g.at - i.at + length g.bytes) content ≡ spliced (i.base + (g.own - i.base))
    (drop (g.own - i.base) i.own.now) rest =
    t.following ∙ ap (λ (n : ℕ). spliced n (drop (g.own - i.base) i.own.now) rest) (sym own) in
    let splices : AreSplices (i.base + (g.own - i.base)) (i.at + (g.at - i.at + length g.bytes))
    (i.base + length i.own.now) total rest =
    subst (λ (n : ℕ). AreSplices n (i.at + (g.at - i.at + length g.bytes)) (i.base + length i.own.now) total rest) (sym own)
    (subst (λ (n : ℕ). AreSplices g.own n (i.base + length i.own.now) total rest) (sym at) h.3) in
    record {
      read =
          subst (λ (n : ℕ). HasRead (g.at - i.at + n) c.args.offset c.copy_shared-done.result content c.copy_shared-done.new.out)
          (sym c.len.ensures.len) second;
      rest = ap (λ (n : ℕ). drop (g.at - i.at + n) content) c.len.ensures.len ∙ following;
      splices =
          subst
          (λ (n : ℕ). AreSplices (i.base + (g.own - i.base)) (i.at + (g.at - i.at + n))
          (i.base + length i.own.now) total rest) (sym c.len.ensures.len) splices;
    }

pub copy_own-requires-clause-room : goal.copy_own-requires-clause-room
copy_own-requires-clause-room c =
    let i = c.self.inside in
    let size : i.at + length (spliced i.base i.own.now i.splices.now) ≡ i.end =
    spliced_length i.base i.at (i.base + length i.own.now) i.end i.own.now i.splices.now c.self.invariant.0 refl in
    let same : length (spliced i.base i.own.now i.splices.now) ≡ length c.args.self.now = ap length c.self.view_is in
    omega (arith, c.requires, c.loop-splice.auto.out, c.self.ranges.1.1.1.1.0.1)

pub returns : goal.returns
returns c =
    let i = c.self.inside in
    let l = c.loop-splice in
    let content = spliced i.base i.own.now i.splices.now in
    let total = i.at + length content in
    let none : drop l.splice-index i.splices.now ≡ [] = drop_all l.splice-index i.splices.now c.loop-splice-test.false in
    let h =
    subst (λ (xs : List Splice). AreSplices (i.base + l.from) (i.at + l.place) (i.base + length i.own.now) total xs) none
    l.invariant.splices in
    let part = take (length i.own.now - l.from) (drop l.from i.own.now) in
    let left : length (drop l.from i.own.now) ≡ length i.own.now - l.from = length-drop l.from i.own.now in
    let size : length part ≡ length i.own.now - l.from =
    length-take-le (length i.own.now - l.from) (drop l.from i.own.now) (omega (arith, left)) in
    let whole : part ≡ drop l.from i.own.now =
    take_all (length i.own.now - l.from) (drop l.from i.own.now) (omega (arith, left)) in
    let s : drop l.place content ≡ part ++ [] =
    l.invariant.rest
    ∙ (ap (λ (xs : List Splice). spliced (i.base + l.from) (drop l.from i.own.now) xs) none
    ∙ sym (append-nil part ∙ whole)) in
    let read : HasRead (l.place + length part) c.args.offset c.copy_own.result content c.copy_own.new.out =
    c.copy_own.ensures.read content [] s l.invariant.read in
    let same : length c.copy_own.new.out ≡ length c.args.out.now = c.copy_own.auto.out ∙ l.auto.out in
    let view : length content ≡ length c.args.self.now = ap length c.self.view_is in
    let le : c.args.offset + length c.copy_own.new.out ≤ l.place + length part =
    omega (arith, c.requires, h.0, h.1, size, same, view) in
    let got : c.copy_own.new.out ≡ take (length c.args.out.now) (drop c.args.offset content) =
    all_read (l.place + length part) c.args.offset c.copy_own.result content c.copy_own.new.out read le
    ∙ ap (λ n. take n (drop c.args.offset content)) same in
    let many : length c.args.out.now ≡ c.args.offset + length c.args.out.now - c.args.offset = omega arith in
    got
    ∙ (ap (λ (t : List ℕ). take (length c.args.out.now) (drop c.args.offset t)) c.self.view_is
    ∙ ap (λ n. take n (drop c.args.offset c.args.self.now)) many)
