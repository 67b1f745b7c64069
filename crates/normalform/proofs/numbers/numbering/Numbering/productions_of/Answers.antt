-- The remaining goals of `Numbering::productions_of`.
use Rattle.normalform.proofs.Common.{◌∙◌, map_push, All-push, AreListedIn}
use Rattle.normalform.specs.numbers.Numbers as spec
use Rattle.normalform.proofs.numbers.numbering.Numbering.productions_of.Goals as goal

pub loop-production-preserved : goal.loop-production-preserved
loop-production-preserved c =
    let more =
    map_push (spec.production_of c.args.self.now.declared c.args.self.now.literals)
    c.loop-production.yielded c.in-Some.production in
    record {
      numbered =
          c.in_ok-push.ensures.items ∙ cc (more, c.loop-production.invariant.numbered, c.in_ok-production_of.ensures.numbered);
      listed =
          rw c.in_ok-push.ensures.items
          (All-push AreListedIn c.loop-production.numbered.items c.in_ok-production_of.field-0
          c.loop-production.invariant.listed c.in_ok-production_of.ensures.listed);
    }
