use Rattle.aggen_c.proofs.Results.{plan_text_of}
use Rattle.aggen_c.proofs.memory.plan_text.Goals as goal

pub returns-in-Ok-clause-text : goal.returns-in-Ok-clause-text
returns-in-Ok-clause-text c =
    let plan = c.plan.result.now in
    plan_text_of _ _ plan.assignment plan.code c.new-text.result.items c.write_plan.new.out.items
    c.plan.ensures c.grammar.ensures.grammar c.new-text.ensures.items c.in-Ok.ensures.ok
