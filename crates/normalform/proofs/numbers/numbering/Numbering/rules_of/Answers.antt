-- The remaining goals of `Numbering::rules_of`.
use Rattle.normalform.proofs.Common.{map, ◌∙◌, map_push, All-push, IsListed, item_placed}
use Rattle.normalform.specs.numbers.Numbers as spec
use Rattle.normalform.proofs.numbers.numbering.Numbering.rules_of.Goals as goal

pub loop-rule-preserved : goal.loop-rule-preserved
loop-rule-preserved c =
    let more =
    map_push (spec.rule_of c.args.self.now.declared (map item_placed c.args.items.now)) c.loop-rule.yielded c.in-Some.rule in
    record {
      numbered = c.in_ok-push.ensures.items ∙ cc (more, c.loop-rule.invariant.numbered, c.in_ok-rule_of.ensures.numbered);
      listed =
          rw c.in_ok-push.ensures.items
          (All-push IsListed c.loop-rule.numbered.items c.in_ok-rule_of.field-0 c.loop-rule.invariant.listed
          c.in_ok-rule_of.ensures.listed);
    }
