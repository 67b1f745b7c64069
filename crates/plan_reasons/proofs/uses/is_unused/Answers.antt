use Rattle.std.proofs.Common.{◌≤◌, length, subst}
use Rattle.passcode.proofs.Slices.{read_at}
use Rattle.planchecker.proofs.Loops.{prefix_more, prefix_whole, is_no, is_yes, says_no, says_yes}
use Rattle.plan_reasons.specs.Hints.{IsUnusedIn}
use Rattle.plan_reasons.proofs.uses.is_unused.Goals as goal

pub loop-production-preserved : goal.loop-production-preserved
loop-production-preserved c =
    prefix_more (λ i q. IsUnusedIn c.args.attribute.0 c.args.attribute.1 q) c.args.grammar.now.productions
    c.loop-production.production-index c.production-item.result
    (read_at c.args.grammar.now.productions c.productions-production-items.result.now c.loop-production.production-index
    c.production-item.result c.productions-production-items.ensures.lent c.loop-production-test.true c.production-item.is)
    c.loop-production.invariant (is_yes c.if-not-is_unused_in.ensures)

pub returns-then-not-is_unused_in : goal.returns-then-not-is_unused_in
returns-then-not-is_unused_in c =
    says_no (λ h. is_no c.if-not-is_unused_in.ensures (h c.loop-production.production-index c.production-item.result
    (read_at c.args.grammar.now.productions c.productions-production-items.result.now c.loop-production.production-index
    c.production-item.result c.productions-production-items.ensures.lent c.loop-production-test.true c.production-item.is)))

pub returns : goal.returns
returns c =
    says_yes
    (prefix_whole (λ i q. IsUnusedIn c.args.attribute.0 c.args.attribute.1 q) c.args.grammar.now.productions
    c.loop-production.production-index
    (subst (λ xs. length xs ≤ c.loop-production.production-index) c.productions-production-items.ensures.lent
    c.loop-production-test.false) c.loop-production.invariant)
