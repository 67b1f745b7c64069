use Rattle.std.proofs.Common.{◌≡◌, ◌+◌, ◌-◌, ◌++◌, ◌∷◌, ℕ, List, length, drop, refl, sym, ap, subst, ◌∙◌, arith}
use Rattle.std.proofs.lemmas.List.{drop_more}
use Rattle.ag_value.proofs.Extending.{by_one, by_two}
use Rattle.shared_bytes.specs.Spliced.{AreSplices, spliced}
use Rattle.shared_bytes.specs.declared.splice.Splice.{Splice}
use Rattle.shared_bytes.proofs.Splicing.{one_copied}
use Rattle.shared_bytes.proofs.body.append_all.Goals as goal

pub loop-splice-preserved : goal.loop-splice-preserved
loop-splice-preserved c =
    let l = c.loop-splice in
    let g = c.splice-item.result in
    let own = c.args.own.now in
    let next = g.own - c.args.base in
    let rest = drop (l.splice-index + 1) c.args.splices.now in
    let e : drop l.splice-index c.args.splices.now ≡ g ∷ rest =
    drop_more c.args.splices.now l.splice-index g c.loop-splice-test.true
    ∙ ap (λ (x : Splice). x ∷ rest) (sym c.splice-item.is) in
    let h =
    subst
    (λ (xs : List Splice). AreSplices (c.args.base + l.from) l.invariant.splices.0
    (c.args.base + length own) l.invariant.splices.1 xs) e l.invariant.splices.2 in
    let there : c.args.base + next ≡ g.own = omega (arith, h.0) in
    record {
      same =
          ap (λ (xs : List ℕ). xs ++ spliced (c.args.base + next) (drop next own) rest)
          (c.in_ok-append_to.ensures.ok ∙ ap (λ (xs : List ℕ). xs ++ g.bytes) c.in_ok-extend_from_slice.ensures.items)
          ∙ (one_copied c.args.base l.from next own l.out.items g rest h.0 refl
          ∙ (ap (λ (gs : List Splice). l.out.items ++ spliced (c.args.base + l.from) (drop l.from own) gs) (sym e)
          ∙ l.invariant.same));
      extends = by_two c.args.out.now.items l.out.items c.append_to.new.out.items l.invariant.extends
          (by_two l.out.items c.extend_from_slice.new.self.items c.append_to.new.out.items
          (by_one l.out.items c.extend_from_slice.new.self.items _ c.in_ok-extend_from_slice.ensures.items)
          (by_one c.extend_from_slice.new.self.items c.append_to.new.out.items g.bytes c.in_ok-append_to.ensures.ok));
      splices = (
        g.at + length g.bytes,
        l.invariant.splices.1,
        subst (λ (i : ℕ). AreSplices i (g.at + length g.bytes) (c.args.base + length own) l.invariant.splices.1 rest)
            (sym there) h.3,
      );
    }
