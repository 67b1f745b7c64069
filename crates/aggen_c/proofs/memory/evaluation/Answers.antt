use Rattle.std.specs.Prelude.{Some}
use Rattle.aggen_c.proofs.Results.{evaluated, evaluation_refused}
use Rattle.aggen_c.proofs.memory.evaluation.Goals as goal

pub returns-in-Ok-clause-text : goal.returns-in-Ok-clause-text
returns-in-Ok-clause-text c =
    let made = c.evaluate_tree in
    evaluated c.args.translator.now c.args.file.now c.in_ok-tree.tree made.new.a made.new.b c.new-text.result.items
    made.new.out.items c.in-Ok.field-0
    c.in_ok-tree.ensures.content c.new-text.ensures.items c.in-Ok.ensures.evaluates

pub returns-clause-refused : goal.returns-clause-refused
returns-clause-refused c =
    let fault = c.memory_fault in
    evaluation_refused c.args.translator.now c.args.file.now c.in_ok-tree.tree (Some c.new-text.result.items)
    (Some c.evaluate_tree.new.out.items)
    c.in-Err.fault fault.result c.in_ok-tree.ensures.content c.in-Err.ensures.refused fault.ensures.same fault.ensures.device
    fault.ensures.write
