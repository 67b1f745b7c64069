use Rattle.std.proofs.Common.{rules, ◌≡◌, subst, sym}
use Rattle.ag_carried.specs.SharedText.{IsTextWithinLimits}
use Rattle.ag_carried.proofs.Texts.{short_text}
use Rattle.ag_carried.proofs.shared_text.SharedText.new.Goals as goal

pub invariant_of-result : goal.invariant_of-result
invariant_of-result c =
    let e : c.in_ok-rope.rope ≡ c.args.text = search rules in
    subst IsTextWithinLimits (sym e) (short_text c.args.text c.requires)
